-- Laws. What a refusal of Szeged terms is, and that it changes no entry: for every block. Assumes nothing.
use Rattle.std.specs.Prelude.{ℕ, ◌<◌, List, ◌≡◌, length}
use borrow.Author.Tests.{lt-ltb}
use Rattle.reply.specs.Read.{refused, read, refusal}
use Rattle.reply.specs.declared.Refusal.{Refusal}
use Rattle.block.specs.Block.{bonds_of, block_reply}
use Rattle.szeged.specs.Reply.{szeged_reply, filled_terms, szeged_entries}

module _ (n : ℕ) (xs : List ℕ) where
  -- the block's refusal before 9, whatever is lent
  pub block_first : (room : ℕ) (r : Refusal) → block_reply n xs ≡ refused r → szeged_reply n xs room ≡ refused r
  unfolding szeged_reply
  block_first room r e = rw e

  pub then_nine : (room : ℕ) → block_reply n xs ≡ read tt → room < length (bonds_of xs) → szeged_reply n xs room ≡ refused (refusal 9 0)
  unfolding szeged_reply
  then_nine room fine short = rw (fine, lt-ltb room (length (bonds_of xs)) short)

  -- a refusal writes nothing
  pub refusal_keeps : (out : List ℕ) (r : Refusal) → szeged_reply n xs (length out) ≡ refused r → szeged_entries n xs out ≡ out
  unfolding filled_terms
  refusal_keeps out r e = rw e
