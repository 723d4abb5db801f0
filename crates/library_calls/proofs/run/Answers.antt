use mathlib.Core.Path.{◌∙◌, ap}
use native.Mathlib.Omega.{arith}
use lib.ListN.{length}
use Rattle.records.specs.declared.Sheet.{Sheet}
use Rattle.library.specs.Steps.{step_reply, said_step, run_of}
use Rattle.calls.specs.Blocks.{sheet_for}
use Rattle.library_calls.specs.Libraries.{with_next, step_code}
use Rattle.library_calls.proofs.Walking.{walked_lacking, walked_told, run_wrote}
use Rattle.library_calls.proofs.run.Goals as goal

-- `library_calls::run` meets its contract. Assumes nothing.
pub returns-then-next-lt1 : goal.returns-then-next-lt1
returns-then-next-lt1 c = let a = c.args in
    walked_lacking (step_reply (sheet_for a.kind) a.deck.now a.position (length a.out.now)) (run_of (sheet_for a.kind) a.deck.now a.position a.out.now).out (run_of (sheet_for a.kind) a.deck.now a.position a.out.now).next a.out.now a.next.now (omega arith) _
    (c.unlent_step.ensures ∙ ap (λ (s : Sheet). step_code (with_next 0 (step_reply s a.deck.now a.position (length a.out.now)))) c.sheet_for-sheet.ensures)

pub returns : goal.returns
returns c = let a = c.args in let s = c.sheet_for-sheet.ensures in let w = c.run-told.ensures in let t = c.tell.ensures in
    walked_told (step_reply (sheet_for a.kind) a.deck.now a.position (length a.out.now)) (run_of (sheet_for a.kind) a.deck.now a.position a.out.now).out (run_of (sheet_for a.kind) a.deck.now a.position a.out.now).next a.out.now a.next.now (omega arith) _ _ _ _
    (w.reply ∙ ap (λ (s : Sheet). said_step (run_of s a.deck.now a.position a.out.now).next (step_reply s a.deck.now a.position (length a.out.now))) s) t.reply t.next (w.bytes ∙ ap (λ (s : Sheet). (run_of s a.deck.now a.position a.out.now).out) s)
    (run_wrote (sheet_for a.kind) a.deck.now a.position a.out.now)
