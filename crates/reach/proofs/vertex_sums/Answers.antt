use mathlib.Core.Path.{sym, ap, ◌∙◌}
use native.Mathlib.Omega.{arith}
use Rattle.std.proofs.lemmas.Result.{err_from_is_err_and}
use Rattle.reply.specs.Chain.{fine_read, refused_read}
use Rattle.block.specs.Block.{most_atoms}
use Rattle.block.specs.Drawn.{drawn_near_lem}
use Rattle.block.specs.Lent.{zeros}
use Rattle.block.specs.Told.{drawn_atoms, drawn_refused}
use Rattle.reach.specs.Told.{sums_none, sums_told, indices_refused, indices_fine}
use Rattle.reach.proofs.Reply.{sums_fit, sums_left}
use Rattle.reach.proofs.vertex_sums.Goals as goal
use Rattle.reply.specs.Read.{as_result}

pub returns-in_err-drawn : goal.returns-in_err-drawn
returns-in_err-drawn c =
    let p = err_from_is_err_and c.from_residual.result c.from_residual.ensures.1 in
    let b = drawn_refused _ _ _ (refused_read _ _ (sym c.drawn.ensures.reply ∙ c.in_err-drawn.was)) in
    record { reply = rw (p.1, p.2) (sym (ap as_result b)); sums = sym (sums_none _ _ b) }

pub summed-requires : goal.summed-requires
summed-requires c =
    let d = c.drawn.ensures in
    let f = fine_read _ (sym d.reply ∙ c.in_ok-drawn.was) in
    let w = drawn_atoms _ _ f in
    (f, d.near ∙ drawn_near_lem _ _ f, omega arith, omega arith, zeros most_atoms)

pub left-requires : goal.left-requires
left-requires c =
    let s = c.summed in
    let a = c.in-Ok.is in
    let (f, e) = indices_fine _ _ _ (sym s.ensures.reply ∙ a) in
    let (n, l, w) = sums_fit _ _ f _ e _ c.first.ensures _ (s.ensures.reached _ a) in
    (n, l, omega (arith, n, s.auto.reached), w)

pub returns-in-Err : goal.returns-in-Err
returns-in-Err c =
    let b = indices_refused _ _ _ (sym c.summed.ensures.reply ∙ c.in-Err.is) in
    record { reply = sym (ap as_result b); sums = sym (sums_none _ _ b) }

pub returns-in-Ok : goal.returns-in-Ok
returns-in-Ok c =
    let s = c.summed in
    let a = c.in-Ok.is in
    let (f, e) = indices_fine _ _ _ (sym s.ensures.reply ∙ a) in
    record { reply = sym (ap as_result f); sums = sums_left _ _ f _ e _ c.first.ensures _ (s.ensures.reached _ a) _ s.auto.reached c.left.ensures ∙ sym (sums_told _ _ f) }
