-- Laws. What is told of a block that is to be written, test by test. Assumes nothing.
use Rattle.std.specs.Prelude.{ℕ, ◌<◌, ◌≤◌, List, ◌++◌, ◌≡◌, length, drop}
use borrow.Author.Tests.{lt-ltb, le-ltb}
use Rattle.reply.specs.Read.{Read, refused, read, refusal}
use Rattle.block.specs.Block.{bonds_of, block_reply}
use Rattle.reply.specs.declared.Refusal.{Refusal}
use Rattle.molwriter.specs.Written.{molfile_text, molfile_write_reply, filled_text}

module _ (n : ℕ) (xs : List ℕ) (room : ℕ) where
  pub write_refused : (r : Refusal) → block_reply n xs ≡ refused r → molfile_write_reply n xs room ≡ refused r
  unfolding molfile_write_reply
  write_refused r e = rw e

  pub write_short : block_reply n xs ≡ read tt → room < length (molfile_text n (bonds_of xs)) → molfile_write_reply n xs room ≡ refused (refusal 9 0)
  unfolding molfile_write_reply
  write_short e l = rw (e, lt-ltb room (length (molfile_text n (bonds_of xs))) l)

  pub write_fine : block_reply n xs ≡ read tt → length (molfile_text n (bonds_of xs)) ≤ room → molfile_write_reply n xs room ≡ read (length (molfile_text n (bonds_of xs)))
  unfolding molfile_write_reply
  write_fine e l = rw (e, le-ltb room (length (molfile_text n (bonds_of xs))) l)

pub stays : (text out : List ℕ) {m : Read ℕ} {r : Refusal} → m ≡ refused r → filled_text m text out ≡ out
unfolding filled_text
stays text out e = rw e

pub fills : (text out : List ℕ) {m : Read ℕ} {k : ℕ} → m ≡ read k → filled_text m text out ≡ text ++ drop (length text) out
unfolding filled_text
fills text out e = rw e
