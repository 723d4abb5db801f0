use mathlib.Core.Path.{refl}
use native.Mathlib.Omega.{arith}
use Rattle.arms.proofs.Keeping.{filled_none, filled_next, filled_all}
use Rattle.stock.specs.Stock.{arms_among}
use Rattle.stock.proofs.arms_among.Goals as goal

pub returns : goal.returns
unfolding arms_among
returns c = filled_all c.loop-k.invariant (omega arith)
