-- Laws. The sums over half of the distances of a block that is not refused, and over a row, are its counts of pairs and its vertex sums. Assumes nothing.
use Rattle.std.specs.Prelude.{ℕ, min, List, ◌≡◌}
use Rattle.std.proofs.Math.Path.{ap, fun_ext}
use Rattle.std.proofs.Common.{arith}
use Rattle.graph.specs.Graph.{Graph, sum, sum_pairs, total, vertex, itself, even_of, odd_of, even_one, odd_one, is_at}
use Rattle.graph.specs.Farthest.{farthest}
use Rattle.graph.specs.Sums.{sum_cong, sum_pairs_cong}
use Rattle.reply.specs.Read.{read}
use Rattle.half.specs.Half.{half_at}
use Rattle.block.specs.Block.{most_atoms, graph_of, block_reply}
use Rattle.block.specs.Rows.{table, row_of, half_table}
use Rattle.block.specs.Index.{vertex_of, pairs_of}
use Rattle.block.specs.Sums.{entry, counts_by, vertex_by}
use Rattle.block.specs.Told.{few_atoms, entry_at}
use Rattle.block.specs.Halved.{table_distance}

module _ (n : ℕ) (xs : List ℕ) (fine : block_reply n xs ≡ read tt) where
  abbrev g : Graph
  g = graph_of n xs

  -- what is counted over the entries is counted over the distances
  pairs_same : (f : ℕ → ℕ) → sum_pairs n (λ i j. f (half_at (half_table n xs) i j)) ≡ total g f
  unfolding total
  pairs_same f = sum_pairs_cong n (λ i j w v. ap f (table_distance n xs fine w v))

  row_same : (a : ℕ) (f : ℕ → ℕ) → sum n (λ j. f (entry (row_of g a) j)) ≡ vertex g a f
  unfolding vertex
  row_same a f = sum_cong n (λ j w. ap f (entry_at n xs fine a w))

  pub counts_are : counts_by n (half_at (half_table n xs)) ≡ pairs_of g
  unfolding counts_by pairs_of
  counts_are = ap (table most_atoms) (fun_ext (λ k. pairs_same (is_at k)))

  pub vertex_is : (a : ℕ) → vertex_by n (entry (row_of g a)) (farthest g a) ≡ vertex_of g a
  unfolding vertex_by vertex_of
  vertex_is a = rw (row_same a itself, row_same a even_of, row_same a odd_of, row_same a even_one, row_same a odd_one, row_same a (is_at 1), row_same a (is_at 2))

  -- as the functions over rows are asked, for n atoms or as many as there are rows
  pub all_atoms : min n most_atoms ≡ n
  all_atoms = let w = few_atoms n xs fine in omega arith
