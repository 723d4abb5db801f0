-- Laws. The promise determines the reply and the output's bytes: two that satisfy it are equal. Assumes nothing.
use Rattle.std.specs.Prelude.{ℕ, List, ◌≡◌, length, Result}
use Rattle.reply.specs.Chain.{unique}
use Rattle.records.specs.declared.Sheet.{Sheet}
use Rattle.queues.specs.declared.Queue.{Queue}
use Rattle.judging.specs.Judging.{said_sheet_written, sheet_out}
use Rattle.gathered.specs.Gathered.{sheet_told}
use Rattle.reply.specs.declared.Refusal.{Refusal}

module _ (t : List ℕ) (q : Queue) (k : Sheet) (d out : List ℕ) where
  pub unique-compose : (r s : Result (Unit {0}) Refusal) → r ≡ said_sheet_written (sheet_told t q k d (length out)) → s ≡ said_sheet_written (sheet_told t q k d (length out)) → r ≡ s
  unique-compose r s = unique

  pub unique-sheet : (a b : List ℕ) → a ≡ sheet_out k out (sheet_told t q k d (length out)) → b ≡ sheet_out k out (sheet_told t q k d (length out)) → a ≡ b
  unique-sheet a b = unique
