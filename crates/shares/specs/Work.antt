-- Work. What the arrays of the work hold, atom by atom. No promise cites this.
use Rattle.std.specs.Prelude.{ℕ, suc, ◌+◌, ◌*◌, ◌-◌, ◌/◌, ◌^◌, min, ◌≤◌, ◌<◌, Bool, ◌&&◌, cond, List, ◌≡◌, eqb, length, get_or}
use Rattle.graph.specs.Graph.{Graph, Bond, Within, Molecule, bonded, distance, sum}
use Rattle.graph.specs.Farthest.{farthest}
use Rattle.graph.specs.Sets.{has}
use Rattle.graph.specs.Paths.{path_count, paths_using}
use Rattle.graph.specs.Notions.{Plain, weight, gathered, lcm_starts}
use Rattle.half.specs.Half.{half_row}
use Rattle.block.specs.Block.{most_atoms, bonds_of, graph_of}
use Rattle.block.specs.Numbered.{bond_at}
use Rattle.block.specs.Opened.{set_of}
use Rattle.block.specs.Near.{around}
use Rattle.shares.specs.Reply.{most_denominator}

-- where path counts stop, just above the most that D may be, and where what is gathered stops
abbrev pub cap : ℕ
cap = most_denominator + 1

abbrev pub full : ℕ
full = most_atoms * most_denominator

-- what an array has for atom v, numbered from 1
abbrev pub at : List ℕ → ℕ → ℕ
at row v = get_or row v 0

-- a row whose first place is atom 1's has d
pub record ShowsRow (n : ℕ) (d : ℕ → ℕ) (row : List ℕ) : Type 0 where
  pub shows : (j : ℕ) → j < n → get_or row j 0 ≡ d (suc j)

-- what f gives the atoms of a set
abbrev pub over_set : ℕ → (ℕ → ℕ) → ℕ
over_set m f = sum most_atoms (λ w. cond (has m w) (f w) 0)

-- the atoms that B gives each of the atoms 1 to n, as sets
pub record NearSets (n : ℕ) (B : ℕ → ℕ → Bool) (near : List ℕ) : Type 0 where
  pub each : (v w : ℕ) → Within n v → Within n w → has (around near v) w ≡ B v w
  pub fits : (v : ℕ) → Within n v → around near v < 2 ^ n

-- no key is above top, which is a level
pub record Tops (n : ℕ) (key : ℕ → ℕ) (top : ℕ) : Type 0 where
  pub low : top < most_atoms
  pub high : (v : ℕ) → Within n v → key v ≤ top

-- the atoms with each key as a set, the level, up to the largest key
pub record Levels (n : ℕ) (key : ℕ → ℕ) (sets : List ℕ) (top : ℕ) : Type 0 where
  pub small : n ≤ most_atoms
  pub low : top < most_atoms
  pub high : (v : ℕ) → Within n v → key v ≤ top
  pub level : (d : ℕ) → d ≤ top → at sets d ≡ set_of n (λ v. eqb (key v) d)
  pub fits : (d : ℕ) → at sets d < 2 ^ n

-- keys from the top down
abbrev pub heights : ℕ → (ℕ → ℕ) → ℕ → ℕ
heights top key v = top - key v

-- F is what each atom has of its own, and what those that B gives it with the next smaller key have
pub record Rule (n : ℕ) (B : ℕ → ℕ → Bool) (key own F : ℕ → ℕ) : Type 0 where
  pub rule : (v : ℕ) → Within n v → F v ≡ own v + sum n (λ w. cond (B v w && eqb (suc (key w)) (key v)) (F w) 0)

-- an array that has F, up to a cap
pub record CappedRow (n top : ℕ) (F : ℕ → ℕ) (row : List ℕ) : Type 0 where
  pub holds : (v : ℕ) → Within n v → at row v ≡ min top (F v)

-- a graph of n atoms
abbrev pub graph : ℕ → List Bond → Graph
graph n bs = record { atoms = n; bonds = bs }

-- what one starting atom is worked with
pub record Start (n : ℕ) (bs : List Bond) (near row sets : List ℕ) (top i : ℕ) : Type 0 where
  pub small : n ≤ most_atoms
  pub molecule : Molecule (graph n bs)
  pub beside : NearSets n (bonded (graph n bs)) near
  pub far : ShowsRow n (distance (graph n bs) i) row
  pub levels : Levels n (distance (graph n bs) i) sets top
  pub start : Within n i

-- the neighbours of a block, half of its distances, and the largest from each atom
pub record BlockGiven (n : ℕ) (bs : List Bond) (near half fars : List ℕ) : Type 0 where
  pub small : n ≤ most_atoms
  pub molecule : Molecule (graph n bs)
  pub beside : NearSets n (bonded (graph n bs)) near
  pub far : (i : ℕ) → Within n i → ShowsRow n (distance (graph n bs) i) (half_row half i)
  pub largest : (i : ℕ) → Within n i → get_or fars (i - 1) 0 ≡ farthest (graph n bs) i

-- positive counts f and a positive number m, up to the cap
pub record Tally (n : ℕ) (f : ℕ → ℕ) (m : ℕ) (c : List ℕ) (before : ℕ) : Type 0 where
  pub small : n ≤ most_atoms
  pub counts : CappedRow n cap f c
  pub positive : (v : ℕ) → Within n v → 0 < f v
  pub first : 0 < m
  pub capped : before ≡ min cap m

-- what bond e answers for, over d, in the pairs of i and a later atom
abbrev pub carried : Graph → ℕ → ℕ → Bond → ℕ
carried g i d e = sum g.atoms (λ j. paths_using g e i j * weight g d i j)

-- what bond k answers for, over d, in the pairs whose first atom is one of 1 to i
abbrev pub sofar : ℕ → List ℕ → ℕ → ℕ → ℕ → ℕ
sofar n xs i d k = sum i (λ s. carried (graph_of n xs) s d (bond_at xs k))

-- a block that is not refused, and D of the pairs whose first atom is one of 1 to i
pub record WholeBlock (n : ℕ) (xs : List ℕ) (i d : ℕ) : Type 0 where
  pub small : n ≤ most_atoms
  pub molecule : Molecule (graph_of n xs)
  pub plain : Plain n (bonds_of xs)
  pub is : d ≡ lcm_starts n (path_count (graph_of n xs)) i
  pub low : d ≤ most_denominator

-- entries that have what the starts 1 to i add up to, over d
pub record Sofar (n : ℕ) (xs : List ℕ) (i d : ℕ) (out : List ℕ) : Type 0 where
  pub room : length xs / 2 ≤ length out
  pub first : (k : ℕ) → k < length xs / 2 → get_or out k 0 ≡ sofar n xs i d k

-- the rows of one start: distances, counts, and what is gathered
pub record StartRows (n : ℕ) (xs row c t : List ℕ) (i d : ℕ) : Type 0 where
  pub whole : WholeBlock n xs i d
  pub far : ShowsRow n (distance (graph_of n xs) i) row
  pub start : Within n i
  pub counts : CappedRow n cap (path_count (graph_of n xs) i) c
  pub passed : CappedRow n full (gathered (graph_of n xs) i (weight (graph_of n xs) d i)) t

-- the lent entries have room for the bonds, and each can grow
pub record SharesRoom (xs out : List ℕ) : Type 0 where
  pub room : length xs / 2 ≤ length out
  pub low : (k : ℕ) → k < length xs / 2 → get_or out k 0 ≤ most_atoms * full
