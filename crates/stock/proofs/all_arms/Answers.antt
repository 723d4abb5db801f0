use mathlib.Core.Path.{refl, ◌∙◌, ap}
use native.Mathlib.Omega.{arith}
use Rattle.arms.specs.Arms.{arm_row}
use Rattle.arms.proofs.Keeping.{filled_none, filled_next, filled_all}
use Rattle.stock.specs.Stock.{all_arms}
use Rattle.stock.proofs.all_arms.Goals as goal

pub returns : goal.returns
unfolding all_arms
returns c = filled_all c.loop-i.invariant.0 (omega arith)
