-- Definitions. A book of summaries, one behind the other, as the shelf that an assembly asks.
use Rattle.std.specs.Prelude.{ℕ, zero, suc, ◌*◌, ◌/◌, true, false, cond, List, eqb, ltb, length}
use Rattle.records.specs.Bytes.{le16, part}
use Rattle.assembly.specs.Placements.{Sites, Shelf}
use Rattle.summary.specs.Layout.{summary_bytes, stored_atoms, stored_degree}

abbrev pub places_in : List ℕ → ℕ
places_in b = length b / summary_bytes

abbrev pub summary_at : List ℕ → ℕ → List ℕ
summary_at b i = part b (summary_bytes * i) summary_bytes

-- the first of `left` places from i on that has a number; the one behind them where none has
unfoldable pub place_from : List ℕ → ℕ → ℕ → ℕ → ℕ
place_from b x i zero = i
place_from b x i (suc left) = elim (eqb (le16 b (summary_bytes * i)) x) [ true ↦ i | false ↦ place_from b x (suc i) left ]

-- 0 is no block's number
unfoldable pub place_of : List ℕ → ℕ → ℕ
place_of b x = cond (eqb x 0) (places_in b) (place_from b x 0 (places_in b))

abbrev pub sites_in : List ℕ → Sites
sites_in s = record { atoms = stored_atoms s; ends = stored_degree s }

abbrev pub shelf_in : List ℕ → Shelf
shelf_in b = record { has = λ x. ltb (place_of b x) (places_in b); sites = λ x. sites_in (summary_at b (place_of b x)) }
