-- Laws. The promise of `write` determines the reply and the lent bytes. Assumes nothing.
use Rattle.std.specs.Prelude.{ℕ, List, ◌≡◌, length, Result}
use Rattle.std.proofs.Common.{sym, ◌∙◌}
use Rattle.molwriter.specs.Written.{molfile_write_reply, written_bytes}
use Rattle.reply.specs.Read.{as_result}
use Rattle.reply.specs.declared.Refusal.{Refusal}

module _ (n : ℕ) (xs out : List ℕ) where
  pub unique-write : (r s : Result ℕ Refusal) → r ≡ as_result (molfile_write_reply n xs (length out)) → s ≡ as_result (molfile_write_reply n xs (length out)) → r ≡ s
  unique-write r s p q = p ∙ sym q

  pub unique-bytes : (a b : List ℕ) → a ≡ written_bytes n xs out → b ≡ written_bytes n xs out → a ≡ b
  unique-bytes a b p q = p ∙ sym q
