-- Definitions. Sums over distances d, whatever says them: a graph, a row, or half a table.
use Rattle.std.specs.Prelude.{ℕ, ◌-◌, List, get_or}
use Rattle.graph.specs.Graph.{sum, sum_pairs, even_of, odd_of, even_one, odd_one, is_at}
use Rattle.block.specs.Block.{most_atoms}
use Rattle.block.specs.Rows.{table}
use Rattle.block.specs.declared.Vertex.{Vertex}

-- what a row says of atom j
abbrev pub entry : List ℕ → ℕ → ℕ
entry row j = get_or row (j - 1) 0

-- over the pairs i < j of n atoms
unfoldable pub counts_by : ℕ → (ℕ → ℕ → ℕ) → List ℕ
counts_by n d = table most_atoms (λ k. sum_pairs n (λ i j. is_at k (d i j)))

-- over n atoms, from one of them, from which the farthest is far
unfoldable pub vertex_by : ℕ → (ℕ → ℕ) → ℕ → Vertex
vertex_by n d far = record {
  sum = sum n (λ j. d j);
  even = sum n (λ j. even_of (d j));
  odd = sum n (λ j. odd_of (d j));
  evens = sum n (λ j. even_one (d j));
  odds = sum n (λ j. odd_one (d j));
  ones = sum n (λ j. is_at 1 (d j));
  twos = sum n (λ j. is_at 2 (d j));
  farthest = far;
}
