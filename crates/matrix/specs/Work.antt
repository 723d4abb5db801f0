-- Work. What the first entries of a row, and the rows of the first atoms, add up to.
use Rattle.std.specs.Prelude.{ℕ, ◌*◌, ◌≤◌, List, ◌≡◌}
use Rattle.graph.specs.Graph.{sum, sum_pairs, odd_of, is_at}
use Rattle.graph.specs.Farthest.{most, most_pairs}
use Rattle.block.specs.Block.{most_atoms}
use Rattle.block.specs.Sums.{entry}
use Rattle.matrix.specs.Matrix.{in_row}

pub record LineOf (row : List ℕ) (k all odd threes top : ℕ) : Type 0 where
  pub all_is : all ≡ sum k (λ j. entry row j)
  pub odd_is : odd ≡ sum k (λ j. odd_of (entry row j))
  pub threes_is : threes ≡ sum k (λ j. is_at 3 (entry row j))
  pub top_is : top ≡ most k (λ j. entry row j)
  pub low : (all ≤ 255 * k) × (odd ≤ all) × (threes ≤ k)

pub record UpTo (rows : List (List ℕ)) (k all odd threes top : ℕ) : Type 0 where
  pub all_is : all ≡ sum_pairs k (λ i j. in_row rows i j)
  pub odd_is : odd ≡ sum_pairs k (λ i j. odd_of (in_row rows i j))
  pub threes_is : threes ≡ sum_pairs k (λ i j. is_at 3 (in_row rows i j))
  pub top_is : top ≡ most_pairs k (λ i j. in_row rows i j)
  pub low : (all ≤ 255 * (most_atoms * k)) × (odd ≤ all) × (threes ≤ most_atoms * k)
