use mathlib.Core.Path.{sym, ap, ◌∙◌}
use borrow.Author.Tests.{not-true, not-false}
use Rattle.block.specs.Drawn.{drawn_is, none_drawn, drawn_near_lem}
use Rattle.block.proofs.Replies.{refused_drawn}
use Rattle.block.proofs.drawn.Goals as goal
use Rattle.reply.specs.Read.{as_result}

pub returns-then-not-s : goal.returns-then-not-s
returns-then-not-s c =
    let h = c.draw-s.ensures.0.refuses (not-true _ c.if-not-s.true) in
    record { reply = sym (ap as_result (refused_drawn _ _ c.refusal.ensures h)); near = sym (none_drawn _ _ h) }

pub returns : goal.returns
returns c =
    let f = not-false _ c.if-not-s.false in
    let (S, d) = c.draw-s.ensures in
    record { reply = sym (ap as_result (d f)); near = drawn_is _ _ (S.shown f) ∙ sym (drawn_near_lem _ _ (d f)) }
