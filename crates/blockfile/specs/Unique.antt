-- Laws. The promise of `read` determines the reply and what is lent. Assumes nothing.
use Rattle.std.specs.Prelude.{ℕ, List, ◌≡◌, length, Result}
use Rattle.std.proofs.Common.{sym, ◌∙◌}
use Rattle.molfile.specs.Molfile.{molfile_reply}
use Rattle.molfile.specs.Said.{said_molfile, molfile_bytes}
use Rattle.reply.specs.declared.Refusal.{Refusal}
use Rattle.reply.specs.declared.Counts.{Counts}

module _ (d out : List ℕ) where
  pub unique-read : (r s : Result Counts Refusal) → r ≡ said_molfile d (molfile_reply d (length out)) → s ≡ said_molfile d (molfile_reply d (length out)) → r ≡ s
  unique-read r s p q = p ∙ sym q

  pub unique-bytes : (a b : List ℕ) → a ≡ molfile_bytes d out → b ≡ molfile_bytes d out → a ≡ b
  unique-bytes a b p q = p ∙ sym q
