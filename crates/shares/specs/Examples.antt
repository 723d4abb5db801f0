-- Laws. What a refusal of contributions is, and that it changes no entry: for every block, and computed for a path of three atoms. Assumes nothing.
use Rattle.std.specs.Prelude.{ℕ, ◌<◌, List, ◌≡◌, length}
use borrow.Author.Tests.{lt-ltb}
use Rattle.reply.specs.Read.{refused, read, refusal}
use Rattle.reply.specs.declared.Refusal.{Refusal}
use Rattle.block.specs.Block.{bonds_of, block_reply}
use Rattle.shares.specs.Reply.{shares_reply, filled_shares, shares_entries}

module _ (n : ℕ) (xs : List ℕ) where
  -- 9 comes before 8, whatever D is
  pub nine_first : (room : ℕ) → block_reply n xs ≡ read tt → room < length (bonds_of xs) → shares_reply n xs room ≡ refused (refusal 9 0)
  unfolding shares_reply
  nine_first room fine short = rw (fine, lt-ltb room (length (bonds_of xs)) short)

  -- a refusal writes nothing
  pub refusal_keeps : (out : List ℕ) (r : Refusal) → shares_reply n xs (length out) ≡ refused r → shares_entries n xs out ≡ out
  unfolding filled_shares
  refusal_keeps out r e = rw e
