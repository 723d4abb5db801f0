-- Definitions. A walk through a library: steps one after the other, each at the position that the one before handed back; and the products' sheets in order.
use Rattle.std.specs.Prelude.{ℕ, zero, suc, List, [], ◌∷◌, ◌++◌, length, take, Option, Some, None, Result, Ok, Err}
use Rattle.records.specs.declared.Sheet.{Sheet}
use Rattle.sheets.specs.Sheets.{fields_of, sheet_record, sheet_bytes}
use Rattle.catalogue.specs.Library.{Library}
use Rattle.catalogue.specs.Products.{product_at}
use Rattle.library.specs.Steps.{step_reply, step_out, said_step}
use Rattle.reply.specs.declared.Refusal.{Refusal}

-- what a walk gives: the sheets that stood first in the buffer after each step that made one, and the last reply
pub record Walk : Type 0 where
  pub sheets : List (List ℕ)
  pub last : Result (Option ℕ) Refusal

abbrev pub sheet_before : List ℕ → Walk → Walk
sheet_before sheet w = record { sheets = sheet ∷ w.sheets; last = w.last }

-- where a step handed back a position the walk goes on there, with the buffer as the step left it; it ends at any other reply
abbrev pub go_on : Result (Option ℕ) Refusal → List ℕ → (ℕ → Walk) → Walk
go_on (Err r) sheet more = record { sheets = []; last = Err r }
go_on (Ok None) sheet more = record { sheets = []; last = Ok None }
go_on (Ok (Some p)) sheet more = sheet_before sheet (more p)

-- at most so many steps from a position on
unfoldable pub walk_from : ℕ → Sheet → List ℕ → ℕ → List ℕ → Walk
walk_from zero s d position out = record { sheets = []; last = Ok (Some position) }
walk_from (suc k) s d position out =
    let told = step_reply s d position (length out) in
    let left = step_out s out told in
    go_on (said_step (suc position) told) (take (sheet_bytes s) left) (λ p. walk_from k s d p left)

-- the records of so many products' sheets from a position on, and their bytes
unfoldable pub in_order : Sheet → List ℕ → Library → ℕ → ℕ → List (List ℕ)
in_order s d l zero position = []
in_order s d l (suc k) position = sheet_record s (fields_of s (product_at d l position)) ∷ in_order s d l k (suc position)

unfoldable pub one_by_one : List (List ℕ) → List ℕ
one_by_one [] = []
one_by_one (x ∷ xs) = x ++ one_by_one xs
