use mathlib.Core.Path.{sym, ◌∙◌, ap}
use Rattle.std.proofs.lemmas.Result.{err_from_is_err_and}
use Rattle.reply.specs.Read.{as_result}
use Rattle.reply.specs.Chain.{read_back}
use Rattle.gathered.proofs.Answers.{behind_refused, behind_read}
use Rattle.gathered.proofs.behind_head.Goals as goal

-- `gathered::behind_head` meets its contract. Assumes nothing.
pub returns-in_err-all : goal.returns-in_err-all
returns-in_err-all c =
    let p = err_from_is_err_and c.from_residual.result c.from_residual.ensures.1 in
    rw (p.1, p.2) (sym (ap as_result (behind_refused _ _ _ (sym (read_back _ _ (sym c.in_err-all.was ∙ c.placed.ensures))))))

pub returns : goal.returns
returns c =
    c.ended.ensures ∙ sym (ap as_result (behind_read _ _ c.in_ok-all.all (sym (read_back _ _ (sym c.in_ok-all.was ∙ c.placed.ensures)))))
