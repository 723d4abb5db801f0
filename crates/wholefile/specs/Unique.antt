-- Laws. The promise of `read_whole` determines the reply and the lent numbers. Assumes nothing.
use Rattle.std.specs.Prelude.{ℕ, List, ◌≡◌, length, Result}
use Rattle.reply.specs.Chain.{unique}
use Rattle.molfile.specs.Said.{said_molfile}
use Rattle.wholefile.specs.Whole.{whole_file_reply}
use Rattle.wholefile.specs.Said.{whole_numbers}
use Rattle.reply.specs.declared.Refusal.{Refusal}
use Rattle.reply.specs.declared.Counts.{Counts}

module _ (d out : List ℕ) where
  pub unique-whole : (r s : Result Counts Refusal) → r ≡ said_molfile d (whole_file_reply d (length out)) → s ≡ said_molfile d (whole_file_reply d (length out)) → r ≡ s
  unique-whole r s = unique

  pub unique-numbers : (a b : List ℕ) → a ≡ whole_numbers d out → b ≡ whole_numbers d out → a ≡ b
  unique-numbers a b = unique
