-- Work. What composing works on: a book of bytes, and a table of the ends of the joins and of each placement's parent.
use Rattle.std.specs.Prelude.{ℕ, ◌+◌, ◌*◌, ◌-◌, ◌/◌, ◌%◌, ◌≤◌, ◌<◌, List, [], ◌∷◌, ◌≡◌, length, get_or}
use Rattle.graph.specs.Graph.{Within}
use Rattle.graph.specs.Assembly.{Join}
use Rattle.assembly.specs.Placements.{most_placements, placement_at, join_on}
use Rattle.block.specs.declared.Vertex.{Vertex}
use Rattle.joining.specs.Parts.{Part, far_in, sight_in}
use Rattle.joining.specs.Table.{Fits}
use Rattle.summary.specs.Layout.{stored_atoms, seen_at, kept_of}
use Rattle.sighted.specs.Sighted.{steps_in}
use Rattle.sighted.specs.declared.Seen.{Seen}
use Rattle.shelf.specs.Shelf.{summary_at, place_of}

-- An end of a join: 256 times a block's number, and one of its atoms. At 2 k is the own atom of the placement at index k, at 2 k + 1 the atom of its parent that it is joined to.
abbrev pub end_of : List ℕ → ℕ → ℕ
end_of ls e = get_or ls e 0

abbrev pub place_in : List ℕ → List ℕ → ℕ → ℕ
place_in b ls k = place_of b (end_of ls (2 * k) / 256)

abbrev pub kept_in : List ℕ → List ℕ → ℕ → Part
kept_in b ls k = kept_of (summary_at b (place_in b ls k))

abbrev pub joins_in : List ℕ → ℕ → Join
joins_in ls k = record { parent = get_or ls (2 * most_placements + k) 0; site = end_of ls (2 * k + 1) % 256; own = end_of ls (2 * k) % 256 }

-- the first k placements stand in the table
pub record LinkedUpTo (xs ls : List ℕ) (k : ℕ) : Type 0 where
  pub size : length ls ≡ 3 * most_placements
  pub block : (m : ℕ) → m < k → end_of ls (2 * m) / 256 ≡ (placement_at xs m).block
  pub home : (m : ℕ) → m < k → end_of ls (2 * m + 1) / 256 ≡ (placement_at xs ((placement_at xs m).parent - 1)).block
  pub join : (m : ℕ) → m < k → joins_in ls m ≡ join_on (placement_at xs) m

-- a byte is below 256
pub record LentBytes (b : List ℕ) : Type 0 where
  pub byte : (i : ℕ) → get_or b i 0 < 256

pub record ReadyShelf (b ls : List ℕ) (count : ℕ) : Type 0 where
  pub lent : LentBytes b
  pub few : Within most_placements count
  pub fits : (k : ℕ) → 1 ≤ k → k < count → Fits (λ k. stored_atoms (summary_at b (place_in b ls k))) (joins_in ls) k
  pub homes : (k : ℕ) → 1 ≤ k → k < count → end_of ls (2 * k + 1) / 256 ≡ end_of ls (2 * ((joins_in ls k).parent - 1)) / 256

-- the numbers of the atoms that the placements at x and y are joined to, and what is counted from the one that k is joined to, in the first m
abbrev pub between : List ℕ → List ℕ → ℕ → ℕ → ℕ
between b ls x y = far_in (kept_in b ls) (joins_in ls) 31 ((joins_in ls x).parent - 1) (joins_in ls x).site ((joins_in ls y).parent - 1) (joins_in ls y).site

abbrev pub sight_from : List ℕ → List ℕ → ℕ → ℕ → Vertex
sight_from b ls m k = sight_in (kept_in b ls) (joins_in ls) (m - 1) ((joins_in ls k).parent - 1) (joins_in ls k).site

-- what is counted from an atom, as a row
abbrev pub count_row : Vertex → List ℕ
count_row v = v.sum ∷ v.even ∷ v.odd ∷ v.evens ∷ v.odds ∷ v.ones ∷ v.twos ∷ v.farthest ∷ []

abbrev pub sight_of_row : List ℕ → Vertex
sight_of_row l = record {
  sum = get_or l 0 0;
  even = get_or l 1 0;
  odd = get_or l 2 0;
  evens = get_or l 3 0;
  odds = get_or l 4 0;
  ones = get_or l 5 0;
  twos = get_or l 6 0;
  farthest = get_or l 7 0;
}

abbrev pub core_at : List (List ℕ) → ℕ → Vertex
core_at vs e = sight_of_row (get_or vs e [])

-- what is seen from an end
abbrev pub seen_from : List ℕ → ℕ → Seen
seen_from b x = seen_at (summary_at b (place_of b (x / 256))) (x % 256)

-- what is seen from the own atom of the placement at k, and from the atom that it is joined to
abbrev pub own_seen : List ℕ → List ℕ → ℕ → Seen
own_seen b ls k = seen_at (summary_at b (place_in b ls k)) (joins_in ls k).own

abbrev pub site_seen : List ℕ → List ℕ → ℕ → Seen
site_seen b ls k = seen_at (summary_at b (place_in b ls ((joins_in ls k).parent - 1))) (joins_in ls k).site

-- In row m, at z: the steps to the atom that the placement at index z is joined to, from the own atom of the one at m where z is joined to that, and from its parent's
-- atom where z is joined to the same parent.
pub record StepsKnown (b ls : List ℕ) (rs : List (List ℕ)) (count : ℕ) : Type 0 where
  pub long : count ≤ length rs
  pub own : (m z : ℕ) → 1 ≤ m → m < count → 1 ≤ z → z < count → (joins_in ls z).parent ≡ m + 1 → get_or (get_or rs m []) z 0 ≡ steps_in (own_seen b ls m).row (joins_in ls z).site
  pub site : (m z : ℕ) → 1 ≤ m → m < count → 1 ≤ z → z < count → (joins_in ls z).parent ≡ (joins_in ls m).parent → get_or (get_or rs m []) z 0 ≡ steps_in (site_seen b ls m).row (joins_in ls z).site

-- The joins before index k are made. At 2 m and 2 m + 1 stands what is counted from the own atom of the placement at index m, in its block, and from
-- its parent's atom: in the parent's block while the join waits, and from then on as far as the placement before.
pub record Counted (b ls : List ℕ) (vs : List (List ℕ)) (count k : ℕ) : Type 0 where
  pub long : 2 * count ≤ length vs
  pub own : (m : ℕ) → 1 ≤ m → m < count → core_at vs (2 * m) ≡ (own_seen b ls m).counts
  pub made : (m : ℕ) → 1 ≤ m → m < count → m < k → core_at vs (2 * m + 1) ≡ sight_from b ls m m
  pub waits : (m : ℕ) → 1 ≤ m → m < count → k ≤ m → core_at vs (2 * m + 1) ≡ (site_seen b ls m).counts

-- a row with how far the atoms are apart that the placements at j and k are joined to, for each j before m since k's parent
pub record Kept (b ls row : List ℕ) (k m : ℕ) : Type 0 where
  pub known : (j : ℕ) → (joins_in ls k).parent ≤ j → j < m → get_or row j 0 ≡ between b ls j k
