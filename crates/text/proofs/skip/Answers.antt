use Prim.Native.Nat.{◌-◌}
use mathlib.Core.Path.{refl, ◌∙◌}
use Rattle.text.proofs.Lines.{end_clear}
use native.Mathlib.Omega.{arith}
use Rattle.text.proofs.skip.Goals as goal

pub loop-i-init : goal.loop-i-init
loop-i-init c = refl

pub returns-then-d-i-lt-STEP : goal.returns-then-d-i-lt-STEP
returns-then-d-i-lt-STEP c = c.loop-i.invariant

pub feeds-requires : goal.feeds-requires
feeds-requires c = let l = c.loop-i in omega (arith, c.if-d-i-lt-STEP.false)

pub returns-then-feeds-ne0 : goal.returns-then-feeds-ne0
returns-then-feeds-ne0 c = c.loop-i.invariant

pub overflow_add-i : goal.overflow_add-i
overflow_add-i c = omega (arith, c.if-d-i-lt-STEP.false)

pub loop-i-preserved : goal.loop-i-preserved
loop-i-preserved c =
    let l = c.loop-i in
    let d = c.args.d.now in
    l.invariant ∙ end_clear d l.i 16 (omega (arith, c.if-d-i-lt-STEP.false)) (c.feeds.ensures c.if-feeds-ne0.false)

pub returns : goal.returns
returns c = c.loop-i.invariant
