-- Laws. The indices that a block's matrix says are the block's; and each promise determines what is given and left. Assumes nothing.
use Rattle.std.specs.Prelude.{ℕ, min, List, ◌≡◌, Result}
use Rattle.std.proofs.Common.{◌∙◌}
use Rattle.std.proofs.Math.Path.{ap}
use Rattle.graph.specs.Graph.{Graph, Within, distance, sum_pairs, total, itself, even_of, odd_of, is_at}
use Rattle.graph.specs.Distance.{distance_sym}
use Rattle.graph.specs.Farthest.{largest}
use Rattle.graph.specs.Largest.{most_pairs_cong}
use Rattle.graph.specs.Sums.{sum_pairs_cong}
use Rattle.reply.specs.Read.{read, as_result}
use Rattle.reply.specs.Chain.{unique}
use Rattle.block.specs.Block.{most_atoms, graph_of, block_reply}
use Rattle.block.specs.Rows.{rows_of, far_after}
use Rattle.block.specs.Index.{indices_of, indices_reply}
use Rattle.block.specs.Told.{molecule}
use Rattle.block.specs.Halved.{at-distance}
use Rattle.block.specs.declared.Indices.{Indices}
use Rattle.matrix.specs.Matrix.{in_row, matrix_indices}
use Rattle.reply.specs.declared.Refusal.{Refusal}

module _ (n : ℕ) (xs : List ℕ) where
  module _ (fine : block_reply n xs ≡ read tt) where
    abbrev g : Graph
    g = graph_of n xs

    in_row_lem : {i j : ℕ} → Within n i → Within n j → in_row (rows_of n xs) i j ≡ distance g i j
    in_row_lem {i} {j} v w = at-distance n xs fine w v ∙ distance_sym (molecule n xs fine) w v

    over : (f : ℕ → ℕ) → sum_pairs n (λ i j. f (in_row (rows_of n xs) i j)) ≡ total g f
    unfolding total
    over f = sum_pairs_cong n (λ i j w v. ap f (in_row_lem w v))

    -- THE INDICES THAT A BLOCK'S MATRIX SAYS ARE THE BLOCK'S
    pub matrix_is : matrix_indices (rows_of n xs) n ≡ indices_of g
    unfolding matrix_indices indices_of largest
    matrix_is = rw (over itself, over even_of, over odd_of, over (is_at 3), most_pairs_cong n (λ i j w v. in_row_lem w v))

  -- the matrix, and the lent largest distances, f before
  pub unique-rows : (f : List ℕ) (r s : List (List ℕ)) (u v : List ℕ) → (r ≡ rows_of n xs) × (u ≡ far_after n xs f) → (s ≡ rows_of n xs) × (v ≡ far_after n xs f) → (r ≡ s) × (u ≡ v)
  unique-rows f r s u v x y = (unique x.0 y.0, unique x.1 y.1)

  pub unique-measure : (r s : Result Indices Refusal) → r ≡ as_result (indices_reply n xs) → s ≡ as_result (indices_reply n xs) → r ≡ s
  unique-measure r s = unique

pub unique-sums : (rows : List (List ℕ)) (n : ℕ) (r s : Indices) → r ≡ matrix_indices rows (min n most_atoms) → s ≡ matrix_indices rows (min n most_atoms) → r ≡ s
unique-sums rows n r s = unique
