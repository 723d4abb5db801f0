-- Definitions. The indices that a distance matrix says, whatever stands in it: each pair i < j is read in row j.
use Rattle.std.specs.Prelude.{ℕ, List}
use Rattle.graph.specs.Graph.{sum_pairs, even_of, odd_of, is_at}
use Rattle.graph.specs.Farthest.{most_pairs}
use Rattle.block.specs.Rows.{distance_at}
use Rattle.block.specs.declared.Indices.{Indices}

-- what a matrix says of atom j and an earlier one
abbrev pub in_row : List (List ℕ) → ℕ → ℕ → ℕ
in_row rows i j = distance_at rows j i

unfoldable pub matrix_indices : List (List ℕ) → ℕ → Indices
matrix_indices rows n = record {
  atoms = n;
  w = sum_pairs n (λ i j. in_row rows i j);
  even = sum_pairs n (λ i j. even_of (in_row rows i j));
  odd = sum_pairs n (λ i j. odd_of (in_row rows i j));
  polarity = sum_pairs n (λ i j. is_at 3 (in_row rows i j));
  largest = most_pairs n (λ i j. in_row rows i j);
}
