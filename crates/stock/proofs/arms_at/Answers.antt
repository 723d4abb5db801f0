use mathlib.Core.Path.{refl}
use native.Mathlib.Omega.{arith}
use Rattle.arms.proofs.Keeping.{filled_none, filled_next, filled_all}
use Rattle.stock.specs.Stock.{arms_at}
use Rattle.stock.proofs.arms_at.Goals as goal

pub returns : goal.returns
unfolding arms_at
returns c = filled_all c.loop-k.invariant.0 (omega arith)
