use Prim.Native.Nat.{ℕ}
use mathlib.Core.Path.{sym, ◌∙◌, ap}
use Rattle.library_calls.specs.Libraries.{stepped_code, stepped_next}
use Rattle.calls.proofs.Laws.{first_put}
use Rattle.library_calls.proofs.tell.Goals as goal
use Rattle.std.specs.Prelude.{Result, Ok, Option}
use Rattle.reply.specs.declared.Refusal.{Refusal}

-- `library_calls::tell` meets its contract. Assumes nothing.
pub returns-in-Err : goal.returns-in-Err
returns-in-Err c = let e = sym c.in-Err.is in record { reply = c.code_of.ensures ∙ ap stepped_code e; next = ap (λ (t : Result (Option ℕ) Refusal). stepped_next t c.args.next.now) e }

pub returns-in-Ok-Some : goal.returns-in-Ok-Some
returns-in-Ok-Some c = let e = sym (c.in-Ok-Some.is ∙ ap (λ (x : Option ℕ). Ok x) (rw c.in-Ok-Some.is at c.in-Ok-Some.field-0-is)) in record { reply = ap stepped_code e; next = first_put _ c.args.next.now c.requires ∙ ap (λ (t : Result (Option ℕ) Refusal). stepped_next t c.args.next.now) e }
