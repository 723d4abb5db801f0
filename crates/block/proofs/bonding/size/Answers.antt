use mathlib.Core.Path.{refl}
use native.Mathlib.Omega.{arith}
use lib.Count.{ones-le}
use Rattle.block.specs.Block.{most_atoms}
use Rattle.block.proofs.bonding.size.Goals as goal

pub overflow_cast-result : goal.overflow_cast-result
overflow_cast-result c = omega (arith, ones-le most_atoms c.args.set (omega arith))

pub returns : goal.returns
returns c = (refl, ones-le most_atoms c.args.set (omega arith))
