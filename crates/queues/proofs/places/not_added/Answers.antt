use mathlib.Core.Path.{sym, ◌∙◌, ap}
use Rattle.std.proofs.lemmas.Result.{err_from_is_err_and}
use Rattle.reply.specs.Read.{as_result}
use Rattle.reply.specs.Chain.{fine_read, refused_read}
use Rattle.block.specs.Block.{block_reply}
use Rattle.queues.proofs.Answers.{first_refused, first_fine}
use Rattle.queues.proofs.places.not_added.Goals as goal

-- `not_added` meets its contract.
pub returns-in_err-check : goal.returns-in_err-check
returns-in_err-check c =
    let a = c.args in
    let p = err_from_is_err_and c.from_residual.result c.from_residual.ensures.1 in
    rw (p.1, p.2) (sym (ap as_result (first_refused _ _ a.room (refused_read (block_reply a.n a.bonds.now) _ (sym c.check.ensures ∙ c.in_err-check.was)))))

pub returns : goal.returns
returns c =
    let a = c.args in
    sym (ap as_result (first_fine _ a.room (fine_read (block_reply a.n a.bonds.now) (sym c.check.ensures ∙ c.in_ok-check.was))))
