-- Work. The atoms within reach of each atom, as sets, and sums over the ordered pairs within reach.
use Rattle.std.specs.Prelude.{ℕ, ◌+◌, ◌-◌, ◌*◌, ◌/◌, ◌%◌, ◌^◌, suc, ◌≤◌, ◌<◌, min, true, cond, List, ◌≢◌, ◌≡◌, leb, eqb, length, get_or, set}
use Rattle.std.specs.Int.Bits.{bit_and, bit_or, bit_xor}
use Rattle.std.specs.Int.Count.{ones}
use Rattle.graph.specs.Graph.{Graph, Within, distance, sum, itself, each, odd_of, is_at}
use Rattle.graph.specs.Sets.{has, alone, firsts}
use Rattle.block.specs.Block.{most_atoms, graph_of}
use Rattle.block.specs.Lent.{EntriesFilled}
use Rattle.block.specs.Near.{around}
use Rattle.block.specs.declared.Indices.{Indices}
use Rattle.reach.specs.declared.Both.{Both}

-- the set of each of n atoms has that atom and its neighbours
pub record WithNeighbours (n : ℕ) (near sets : List ℕ) : Type 0 where
  pub set_is : (v : ℕ) → Within n v → around sets v ≡ bit_or (around near v) (alone v)

-- how many bonds away its atoms are at most: one, where there is a bond
abbrev pub first_level : List ℕ → ℕ
first_level xs = min 1 (length xs)

-- no set has more than the atoms
abbrev pub Fit : ℕ → List ℕ → Type 0
Fit n sets = (v : ℕ) → Within n v → around sets v < 2 ^ n

-- how many atoms the sets of the first n atoms have together
abbrev pub together_in : List ℕ → ℕ → ℕ
together_in sets n = sum n (λ v. ones (around sets v))

-- sets of so few atoms that four of them stand side by side in one number: those below `side`; and of any set, what it has among these atoms
abbrev pub few_atoms : ℕ
few_atoms = 16

abbrev pub side : ℕ
side = 65536

abbrev pub low : ℕ → ℕ
low set = set % side

abbrev pub Low : ℕ → List ℕ → Type 0
Low n sets = (p : ℕ) → p < n → get_or sets p 0 < side

-- the set of each atom has exactly the atoms at most d bonds away
pub record Reach (g : Graph) (d : ℕ) (sets : List ℕ) : Type 0 where
  pub fits : Fit g.atoms sets
  pub holds : (v w : ℕ) → Within g.atoms v → Within g.atoms w → has (around sets v) w ≡ leb (distance g v w) d

-- the set of each atom has that atom and none more than d bonds away
pub record Inner (g : Graph) (d : ℕ) (sets : List ℕ) : Type 0 where
  pub fits : Fit g.atoms sets
  pub own : (v : ℕ) → Within g.atoms v → has (around sets v) v ≡ true
  pub near : (v w : ℕ) → Within g.atoms v → Within g.atoms w → has (around sets v) w ≡ true → distance g v w ≤ d

-- of two tables of sets, for odd and for even levels, that of level d
abbrev pub of_level : ℕ → List ℕ → List ℕ → List ℕ
of_level d odd even = cond (eqb (d % 2) 0) even odd

-- inner sets, old, that were spread from the sets of a level, near: they reach one bond farther, and have met atoms together
pub record Spread (n : ℕ) (xs near old sets : List ℕ) (met : ℕ) : Type 0 where
  pub wider : (d : ℕ) → suc d < n → Reach (graph_of n xs) d near → Inner (graph_of n xs) d old → Reach (graph_of n xs) (suc d) sets
  pub met_is : Fit n sets → met ≡ together_in sets n

-- each atom of a set has one of some others within its own reach
abbrev pub AllMeet : List ℕ → ℕ → ℕ → Type 0
AllMeet near some set = (w : ℕ) → 1 ≤ w → has set w ≡ true → bit_and (around near w) some ≢ 0

-- and so do, for each of n atoms, those that are not within its reach, with its neighbours
abbrev pub AllNext : ℕ → List ℕ → List ℕ → Type 0
AllNext n near drawn = (v : ℕ) → Within n v → AllMeet near (around drawn v) (bit_xor (firsts n) (around near v))

-- the set of atom u takes in what atom v reached; and that of v what u reached
abbrev pub taking : List ℕ → ℕ → ℕ → List ℕ → List ℕ
taking near u v sets = set sets (u - 1) (bit_or (around sets u) (around near v))

abbrev pub exchanged : List ℕ → ℕ → ℕ → List ℕ → List ℕ
exchanged near u v sets = taking near v u (taking near u v sets)

-- f summed over all ordered pairs at most d bonds apart, each atom with itself too
unfoldable pub up_to : Graph → (ℕ → ℕ) → ℕ → ℕ
up_to g f d = sum g.atoms (λ i. sum g.atoms (λ j. cond (leb (distance g i j) d) (f (distance g i j)) 0))

-- with so many more pairs, which are d bonds apart
abbrev pub farther_of : Both → ℕ → ℕ → Both
farther_of s d pairs = record { all = s.all + d * pairs; odd = s.odd + odd_of d * pairs; threes = s.threes + is_at 3 d * pairs }

-- the indices of n atoms at most d bonds apart, by the sums over all ordered pairs
abbrev pub halved : ℕ → Both → ℕ → Indices
halved n s d = record { atoms = n; w = s.all / 2; even = s.all / 2 - s.odd / 2; odd = s.odd / 2; polarity = s.threes / 2; largest = d }

-- sums that leave room for more
pub record LowSums (s : Both) : Type 0 where
  pub all_low : s.all ≤ most_atoms * (most_atoms * most_atoms)
  pub odd_low : s.odd ≤ most_atoms * (most_atoms * most_atoms)
  pub threes_low : s.threes ≤ most_atoms * (most_atoms * most_atoms)

-- the sums over the pairs at most d bonds apart, of which there are met; some are d bonds apart, which are fewer than there are atoms
pub record LevelsUpTo (g : Graph) (d met : ℕ) (s : Both) : Type 0 where
  pub all_is : s.all ≡ up_to g itself d
  pub odd_is : s.odd ≡ up_to g odd_of d
  pub threes_is : s.threes ≡ up_to g (is_at 3) d
  pub met_is : met ≡ up_to g each d
  pub below : d < g.atoms
  pub deep : ((i j : ℕ) → Within g.atoms i → Within g.atoms j → distance g i j ≡ d → ⊥) → ⊥

-- numbers of n atoms to which more can be added
pub record Room (n : ℕ) (reached : List ℕ) : Type 0 where
  pub room : (v : ℕ) → Within n v → around reached v ≤ most_atoms * most_atoms

-- how many atoms the set of each of n atoms has is added
abbrev pub Added : ℕ → List ℕ → List ℕ → List ℕ → Type 0
Added n sets old new = EntriesFilled n (λ i. get_or old i 0 + ones (get_or sets i 0)) old new

-- of so many levels of n atoms each what is left to each of them, which reached itself and so many
abbrev pub Left : ℕ → ℕ → ℕ → List ℕ → List ℕ → Type 0
Left n levels own old new = EntriesFilled n (λ i. n * levels - (own + get_or old i 0)) old new

-- the numbers of atoms within reach of each of the first k, from 1 to less than d bonds together, where each reached itself before; what is wanting to
-- all atoms is the vertex sum, once all are at most d bonds away
pub record Reached (g : Graph) (own k d : ℕ) (reached : List ℕ) : Type 0 where
  pub wanting : (v : ℕ) → Within k v → own + around reached v + sum g.atoms (λ w. min (distance g v w) d) ≡ g.atoms * d
  pub behind : (p : ℕ) → k ≤ p → get_or reached p 0 ≡ 0
