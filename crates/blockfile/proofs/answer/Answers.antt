use mathlib.Core.Path.{◌≡◌, sym, ap, ◌∙◌}
use native.Mathlib.Omega.{arith}
use Rattle.reply.specs.Read.{read}
use Rattle.reply.specs.Chain.{fine_read, refused_read}
use Rattle.block.specs.Block.{block_reply}
use Rattle.molfile.proofs.Fronts.{answers_refused, answers_short, answers_fine}
use Rattle.blockfile.proofs.answer.Goals as goal
use Rattle.blockfile.proofs.answer.Goals.{In_ok-check}
use Rattle.std.specs.Prelude.{Err}
use Rattle.std.proofs.lemmas.Result.{err_from_is_err_and}

fine : (c : In_ok-check) → let a = c.args in block_reply a.n a.xs.now ≡ read tt
fine c = fine_read _ (sym c.in_ok-check.ensures)

pub returns-then-out-xs : goal.returns-then-out-xs
returns-then-out-xs c = let w = let a = c.args in answers_short block_reply a.n a.xs.now a.out.now (fine (goal.at.returns-then-out-xs c).In_ok-check) (omega (arith, c.if-out-xs.true)) in record { reply = ap Err c.at.ensures ∙ w.0; bytes = w.1 }

pub returns-in_err-check : goal.returns-in_err-check
returns-in_err-check c = let w = let a = c.args in
    answers_refused block_reply a.n a.xs.now a.out.now (refused_read _ _ (sym c.in_err-check.ensures)) in
    let p = err_from_is_err_and c.from_residual.result c.from_residual.ensures.1 in
    record { reply = rw (p.1, p.2) w.0; bytes = w.1 }

pub returns : goal.returns
returns c = let w = let a = c.args in
    answers_fine block_reply a.n a.xs.now a.out.now (fine (goal.at.returns c).In_ok-check) (omega (arith, c.if-out-xs.false)) c.put.ensures.bytes in record { reply = w.0; bytes = w.1 }
