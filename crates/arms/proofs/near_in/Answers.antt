use mathlib.Core.Path.{refl}
use native.Mathlib.Omega.{arith}
use Rattle.arms.specs.Arms.{ports_near}
use Rattle.arms.proofs.Keeping.{filled_none, filled_next, filled_all}
use Rattle.arms.proofs.near_in.Goals as goal

pub loop-j-init : goal.loop-j-init
loop-j-init c = filled_none refl

pub loop-j-preserved : goal.loop-j-preserved
loop-j-preserved c = filled_next c.loop-j.invariant (omega arith) c.steps.ensures

pub returns : goal.returns
unfolding ports_near
returns c = filled_all c.loop-j.invariant (omega arith)
