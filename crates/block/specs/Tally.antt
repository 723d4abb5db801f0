-- Work. How the sums over a row, and the counts of pairs, are worked.
use Rattle.std.specs.Prelude.{ℕ, ◌+◌, ◌-◌, ◌*◌, ◌≤◌, ◌<◌, List, ◌≡◌, length, get_or}
use Rattle.graph.specs.Graph.{sum, even_of, odd_of, even_one, odd_one, is_at}
use Rattle.block.specs.Block.{most_atoms}
use Rattle.block.specs.Sums.{entry}
use Rattle.block.specs.declared.Tally.{Tally}

-- the tally of the distances d 1 to d k
unfoldable pub tally_by : ℕ → (ℕ → ℕ) → Tally
tally_by k d = record {
  even = sum k (λ j. even_of (d j));
  odd = sum k (λ j. odd_of (d j));
  evens = sum k (λ j. even_one (d j));
  odds = sum k (λ j. odd_one (d j));
  ones = sum k (λ j. is_at 1 (d j));
  twos = sum k (λ j. is_at 2 (d j));
}

-- no number of the tally is above b
pub record TallyBelow (b : ℕ) (t : Tally) : Type 0 where
  pub even_low : t.even ≤ b
  pub odd_low : t.odd ≤ b
  pub evens_low : t.evens ≤ b
  pub odds_low : t.odds ≤ b
  pub ones_low : t.ones ≤ b
  pub twos_low : t.twos ≤ b

-- the tally of the first k entries of a row of bytes
pub record Tallied (row : List ℕ) (k : ℕ) (t : Tally) : Type 0 where
  pub equal : t ≡ tally_by k (entry row)
  pub low : TallyBelow (255 * k) t

-- what stands in a half at the places behind `from`, the first for j = 1
abbrev pub run_at : List ℕ → ℕ → ℕ → ℕ
run_at h from j = get_or h (from + (j - 1)) 0

-- counts, one for each number below 64, none above b
pub record Counts (b : ℕ) (at : List ℕ) : Type 0 where
  pub size : length at ≡ most_atoms
  pub most : (d : ℕ) → get_or at d 0 ≤ b

-- how often each number is among d 1 to d k, added to counts
pub record CountsAdded (at : List ℕ) (d : ℕ → ℕ) (k : ℕ) (r : List ℕ) : Type 0 where
  pub size : length r ≡ most_atoms
  pub equal : (x : ℕ) → x < most_atoms → get_or r x 0 ≡ get_or at x 0 + sum k (λ j. is_at x (d j))
