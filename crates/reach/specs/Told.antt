-- Laws. What lent vertex sums tell, and a reply with indices: it is the block's refusal, or the block is fine and they are its. Assumes nothing.
use Rattle.std.specs.Prelude.{ℕ, List, ◌≡◌, Ok, Err}
use Rattle.std.proofs.Math.Path.{sym}
use Rattle.reply.specs.Read.{refused, read, as_result}
use Rattle.reply.specs.Chain.{made_refused, made_read, read_back}
use Rattle.reply.specs.declared.Refusal.{Refusal}
use Rattle.block.specs.Block.{graph_of, block_reply}
use Rattle.block.specs.Index.{indices_of, indices_reply}
use Rattle.block.specs.Rows.{no_row, lent_row}
use Rattle.block.specs.declared.Indices.{Indices}
use Rattle.reach.specs.Sums.{vertex_sums_of, sums_reply}

-- the lent vertex sums of a block, refused or not
module _ (n : ℕ) (xs : List ℕ) where
  pub sums_none : {r : Refusal} → block_reply n xs ≡ refused r → lent_row (sums_reply n xs) ≡ no_row
  unfolding sums_reply
  sums_none e = rw e

  pub sums_told : block_reply n xs ≡ read tt → lent_row (sums_reply n xs) ≡ vertex_sums_of (graph_of n xs)
  unfolding sums_reply
  sums_told e = rw e

  -- what a reply with indices tells
  pub indices_refused : (r : Refusal) → as_result (indices_reply n xs) ≡ Err r → block_reply n xs ≡ refused r
  unfolding indices_reply
  indices_refused r e = made_refused (block_reply n xs) (λ _. indices_of (graph_of n xs)) (sym (read_back _ _ (sym e)))

  pub indices_fine : (x : Indices) → as_result (indices_reply n xs) ≡ Ok x → (block_reply n xs ≡ read tt) × (x ≡ indices_of (graph_of n xs))
  unfolding indices_reply
  indices_fine x e = let (u, f, same) = made_read (block_reply n xs) (λ _. indices_of (graph_of n xs)) (sym (read_back _ _ (sym e))) in (f, sym same)
