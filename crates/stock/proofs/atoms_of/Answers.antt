use mathlib.Core.Path.{refl}
use native.Mathlib.Omega.{arith}
use Rattle.arms.proofs.Keeping.{filled_none, filled_next, filled_all}
use Rattle.stock.specs.Stock.{atoms_of}
use Rattle.stock.proofs.atoms_of.Goals as goal

pub returns : goal.returns
unfolding atoms_of
returns c = filled_all c.loop-k.invariant (omega arith)
