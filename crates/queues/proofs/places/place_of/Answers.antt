use Prim.Native.Nat.{◌-◌}
use mathlib.Core.Path.{◌≡◌, refl, sym, ◌∙◌}
use native.Mathlib.Omega.{arith}
use Rattle.queues.specs.Shelf.{places, number_in}
use Rattle.summary.specs.Layout.{summary_bytes}
use Rattle.queues.proofs.Steps.{seek_here, seek_on, seek_over}
use Rattle.queues.proofs.places.place_of.Goals as goal

pub loop-k-init : goal.loop-k-init
loop-k-init c = (omega arith, refl)

pub returns-then-le16_at-number : goal.returns-then-le16_at-number
returns-then-le16_at-number c =
    let a = c.args in
    (sym (c.loop-k.invariant.1 ∙ seek_here (number_in summary_bytes a.s.now) a.number c.loop-k.k places c.loop-k-test.true (sym c.le16_at.ensures ∙ c.if-le16_at-number.true)), c.loop-k.invariant.0)

pub loop-k-preserved : goal.loop-k-preserved
loop-k-preserved c =
    let a = c.args in
    (omega arith, c.loop-k.invariant.1 ∙ seek_on (number_in summary_bytes a.s.now) a.number c.loop-k.k places c.loop-k-test.true (λ e. c.if-le16_at-number.false (c.le16_at.ensures ∙ e)))

pub returns : goal.returns
returns c =
    let a = c.args in
    let e : c.loop-k.k ≡ places = omega arith in
    (sym (c.loop-k.invariant.1 ∙ seek_over (number_in summary_bytes a.s.now) a.number c.loop-k.k places (omega arith) ∙ e), omega arith)
