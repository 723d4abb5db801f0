use mathlib.Core.Path.{sym, ◌∙◌, ap}
use Rattle.std.proofs.lemmas.Result.{err_from_is_err_and}
use Rattle.reply.specs.Chain.{fine_read, refused_read}
use Rattle.block.specs.Halved.{half_lent}
use Rattle.szeged.proofs.Reply.{reply-refused, entries_stay, tree_told}
use Rattle.szeged.proofs.terms.Goals as goal
use Rattle.reply.specs.Read.{as_result}

-- `terms` meets its contract: the block's refusal, or the answer for a block that is not refused.
pub answered-requires : goal.answered-requires
answered-requires c =
    let h = c.halved.ensures in
    (fine_read _ (sym h.reply ∙ c.in_ok-halved.was), h.half ∙ half_lent _ _)

pub returns-in_err-halved : goal.returns-in_err-halved
returns-in_err-halved c =
    let a = c.args in
    let p = err_from_is_err_and c.from_residual.result c.from_residual.ensures.1 in
    let e = reply-refused a.n a.bonds.now _ (refused_read _ _ (sym c.halved.ensures.reply ∙ c.in_err-halved.was)) in
    let r = sym (ap as_result e) in
    rw (p.1, p.2) (record { reply = r; entries = entries_stay a.n a.bonds.now a.out.now e; tree = tree_told a.n a.bonds.now _ _ r })

pub returns : goal.returns
returns c =
    let f = c.answered.ensures in
    record { reply = f.reply; entries = f.entries; tree = tree_told _ _ _ _ f.reply }
