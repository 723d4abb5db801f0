use native.Mathlib.Nat.{mod-lt}
use native.Mathlib.Omega.{arith}
use Rattle.graph.specs.Lcm.{gcd_step, gcd_end}
use Rattle.shares.proofs.common.gcd.Goals as goal

pub loop-y-init : goal.loop-y-init
loop-y-init c = λ d h. h

pub loop-y-smaller : goal.loop-y-smaller
loop-y-smaller c = mod-lt c.loop-y.x (omega arith)

pub loop-y-preserved : goal.loop-y-preserved
loop-y-preserved c = λ d h. c.loop-y.invariant d (gcd_step c.loop-y.x c.loop-y.y d h)

pub returns : goal.returns
returns c = c.loop-y.invariant c.loop-y.x (rw c.loop-y-test.false (gcd_end c.loop-y.x))
