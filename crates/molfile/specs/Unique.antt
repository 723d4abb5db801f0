-- Laws. The promise of `kept_bonds` determines the reply and what is lent, that of `rest_place` the place. Assumes nothing.
use Rattle.std.specs.Prelude.{ℕ, List, ◌≡◌, length, Result}
use Rattle.std.proofs.Common.{sym, ◌∙◌}
use Rattle.molfile.specs.Molfile.{lines_reply, rest_of}
use Rattle.molfile.specs.Said.{said_kept, kept_numbers}
use Rattle.reply.specs.declared.Refusal.{Refusal}
use Rattle.molfile.specs.declared.Kept.{Kept}

module _ (d out : List ℕ) where
  pub unique-kept : (r s : Result Kept Refusal) → r ≡ said_kept d (length out) (lines_reply d) → s ≡ said_kept d (length out) (lines_reply d) → r ≡ s
  unique-kept r s p q = p ∙ sym q

  pub unique-numbers : (a b : List ℕ) → a ≡ kept_numbers d out → b ≡ kept_numbers d out → a ≡ b
  unique-numbers a b p q = p ∙ sym q

pub unique-rest_place : (d : List ℕ) (p q : ℕ) → p ≡ rest_of d → q ≡ rest_of d → p ≡ q
unique-rest_place d p q e f = e ∙ sym f
