use mathlib.Core.Path.{refl}
use native.Mathlib.Omega.{arith}
use Rattle.arms.specs.Arms.{port_in}
use Rattle.arms.proofs.Keeping.{filled_none, filled_next, filled_all, core_kept}
use Rattle.arms.proofs.core_in.Goals as goal

pub loop-k-init : goal.loop-k-init
loop-k-init c = filled_none refl

pub loop-k-preserved : goal.loop-k-preserved
loop-k-preserved c = filled_next c.loop-k.invariant (omega arith) c.port_in.ensures

pub returns : goal.returns
returns c = core_kept _ _ _ _ c.fields-six.ensures (filled_all c.loop-k.invariant (omega arith))
