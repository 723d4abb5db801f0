use mathlib.Core.Path.{sym, ◌∙◌}
use native.Mathlib.Omega.{arith}
use Rattle.std.proofs.lemmas.Result.{err_from_is_err_and}
use Rattle.reply.specs.Chain.{fine_read, refused_read}
use Rattle.block.specs.Drawn.{drawn_near_lem}
use Rattle.block.specs.Lent.{zeros}
use Rattle.reach.proofs.Reply.{refused_reply}
use Rattle.reach.proofs.opened.Goals as goal

pub summed-requires : goal.summed-requires
summed-requires c =
    let d = c.drawn.ensures in
    let f = fine_read _ (sym d.reply ∙ c.in_ok-drawn.was) in
    (f, d.near ∙ drawn_near_lem _ _ f, omega arith, omega arith, zeros 0)

pub returns-in_err-drawn-clause-reply : goal.returns-in_err-drawn-clause-reply
returns-in_err-drawn-clause-reply c =
    let p = err_from_is_err_and c.from_residual.result c.from_residual.ensures.1 in
    rw (p.1, p.2) (refused_reply _ _ _ (refused_read _ _ (sym c.drawn.ensures.reply ∙ c.in_err-drawn.was)))
