use mathlib.Core.Path.{sym, ap, ◌∙◌}
use Rattle.std.specs.Prelude.{Err}
use Rattle.std.proofs.lemmas.Result.{err_from_is_err_and}
use Rattle.reply.specs.Chain.{fine_read, refused_read}
use Rattle.sets.proofs.Replies.{reply-refused, reply_outside, reply_no_tree, reply_rooted, reply_counted}
use Rattle.sets.proofs.count_from.Goals as goal

-- `sets::count_from` meets its contract: the refusals in their order, then the recursion.
pub returns-in_err-check : goal.returns-in_err-check
returns-in_err-check c =
    let p = err_from_is_err_and c.from_residual.result c.from_residual.ensures.1 in
    rw (p.1, p.2) (reply-refused _ _ _ _ (refused_read _ _ (sym c.check.ensures ∙ c.in_err-check.was)))

pub returns-then-is_outside : goal.returns-then-is_outside
returns-then-is_outside c =
    ap Err c.at.ensures ∙ reply_outside _ _ _ (fine_read _ (sym c.check.ensures ∙ c.in_ok-check.was)) (sym c.is_outside.ensures ∙ c.if-is_outside.true)

pub returns-then-bonds-n : goal.returns-then-bonds-n
returns-then-bonds-n c =
    ap Err c.at-then-bonds-n.ensures
    ∙ reply_no_tree _ _ _ (fine_read _ (sym c.check.ensures ∙ c.in_ok-check.was)) (sym c.is_outside.ensures ∙ c.if-is_outside.false) c.if-bonds-n.true

pub recursion-requires : goal.recursion-requires
recursion-requires c = reply_rooted _ _ _ (fine_read _ (sym c.check.ensures ∙ c.in_ok-check.was)) (sym c.is_outside.ensures ∙ c.if-is_outside.false) c.if-bonds-n.false

pub returns : goal.returns
returns c =
    reply_counted _ _ _ (fine_read _ (sym c.check.ensures ∙ c.in_ok-check.was)) (sym c.is_outside.ensures ∙ c.if-is_outside.false) c.if-bonds-n.false c.recursion.ensures
