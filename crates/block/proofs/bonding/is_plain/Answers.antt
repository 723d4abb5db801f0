use Prim.Native.Nat.{◌-◌}
use mathlib.Core.Path.{◌≡◌}
use native.Mathlib.Numerals.{add-one}
use native.Mathlib.Omega.{arith}
use Rattle.block.proofs.Sketching.{Sizing, sizing_start, sizing_next, sizing_other, sizing_same}
use Rattle.block.proofs.bonding.is_plain.Goals as goal
use Rattle.block.proofs.bonding.is_plain.Goals.{After-loop-i}

pub loop-i-init : goal.loop-i-init
loop-i-init c = (omega arith, sizing_start _)

pub overflow_add-sum : goal.overflow_add-sum
overflow_add-sum c = omega (arith, c.size-k.ensures.1, c.loop-i.invariant.1.low)

pub overflow_add-high : goal.overflow_add-high
overflow_add-high c = omega (arith, c.size-k.ensures.1)

pub loop-i-preserved : goal.loop-i-preserved
loop-i-preserved c =
    let l = c.loop-i in
    (omega arith, rw (add-one l.i) (sizing_next _ _ _ _ _ l.invariant.1 c.size-k.ensures.0 c.size-k.ensures.1))

-- after the last set
done : (c : After-loop-i) → let l = c.loop-i in Sizing c.args.near.now c.args.n l.sum l.high
done c = let e : c.loop-i.i ≡ c.args.n = omega arith in rw e at c.loop-i.invariant.1

pub returns-then-sum-ends : goal.returns-then-sum-ends
returns-then-sum-ends c = sizing_other _ _ (done (goal.at.returns-then-sum-ends c).After-loop-i) (omega (arith, c.if-sum-ends.true))

pub returns : goal.returns
returns c = sizing_same _ _ (done (goal.at.returns c).After-loop-i) (omega (arith, c.if-sum-ends.false)) _ (omega arith)
