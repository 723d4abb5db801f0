use mathlib.Core.Path.{sym, ◌∙◌, ap}
use Rattle.std.proofs.lemmas.Result.{err_from_is_err_and}
use Rattle.reply.specs.Chain.{fine_read, refused_read}
use Rattle.block.specs.Drawn.{opened_near_lem}
use Rattle.block.specs.Halved.{half_lent, far_lent}
use Rattle.shares.proofs.Reply.{reply-refused, entries_stay}
use Rattle.shares.proofs.contributions.Goals as goal
use Rattle.reply.specs.Read.{as_result}

-- `contributions` meets its contract: the block's refusal, or the answer for a block that is not refused.
pub answered-requires : goal.answered-requires
answered-requires c =
    let t = c.table.ensures in
    let f = fine_read _ (sym t.reply ∙ c.in_ok-table.was) in
    (f, t.near ∙ opened_near_lem _ _ f, t.half ∙ half_lent _ _, t.far ∙ far_lent _ _)

pub returns-in_err-table : goal.returns-in_err-table
returns-in_err-table c =
    let a = c.args in
    let p = err_from_is_err_and c.from_residual.result c.from_residual.ensures.1 in
    let e = reply-refused a.n a.bonds.now _ (refused_read _ _ (sym c.table.ensures.reply ∙ c.in_err-table.was)) in
    rw (p.1, p.2) (record { reply = sym (ap as_result e); entries = entries_stay a.n a.bonds.now a.out.now e })
