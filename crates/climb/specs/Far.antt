-- Definitions. The number of two placed atoms over a book of summaries and an assembly's payload, whatever their bytes: by the joining rules over what the summaries say.
use Rattle.std.specs.Prelude.{ℕ, ◌+◌, ◌-◌, ◌<◌, ◌||◌, cond, List, ◌≡◌}
use Rattle.reply.specs.Read.{is_outside}
use Rattle.assembly.specs.Placements.{most_placements, placement_at, join_on}
use Rattle.joining.specs.Parts.{far_in}
use Rattle.summary.specs.Layout.{far_at}
use Rattle.shelf.specs.Shelf.{summary_at, place_of}
use Rattle.summaries.specs.Composing.{kept_on}
use Rattle.climb.specs.declared.Leg.{Leg}

-- of the atoms i and j of the block with a number
abbrev pub far_of : List ℕ → ℕ → ℕ → ℕ → ℕ
far_of b x i j = far_at (summary_at b (place_of b x)) i j

-- of atom i of the placement at index k and atom j of the one at index l
abbrev pub far_by : List ℕ → List ℕ → ℕ → ℕ → ℕ → ℕ → ℕ
far_by b xs k i l j = far_in (kept_on b xs) (join_on (placement_at xs)) (most_placements - 1) k i l j

-- the index that a join at index k leads to: a parent that is none of the earlier placements counts as the first, as it does in `far_in`
abbrev pub earlier_of : ℕ → ℕ → ℕ
earlier_of parent k = cond (is_outside k parent) 0 (parent - 1)

-- the first part of the way between them: all of it in one placement, and where k is the later one, that over the bond to its parent
pub record FirstLeg (b xs : List ℕ) (k i l j : ℕ) (r : Leg) : Type 0 where
  pub few : r.bonds < 66
  pub all : k ≡ l → r.bonds ≡ far_by b xs k i l j
  pub low : l < k → r.onto < k
  pub rest : l < k → r.bonds + far_by b xs r.onto r.site l j ≡ far_by b xs k i l j

-- of atom i of placement number k and atom j of placement number l; 0 where one of the two is none of 32
unfoldable pub placed_far : List ℕ → List ℕ → ℕ → ℕ → ℕ → ℕ → ℕ
placed_far b xs k i l j = cond (is_outside most_placements k || is_outside most_placements l) 0 (far_by b xs (k - 1) i (l - 1) j)
