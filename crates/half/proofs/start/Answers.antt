use mathlib.Core.Path.{refl}
use native.Mathlib.Omega.{arith}
use Rattle.half.specs.Half.{row_start}
use Rattle.half.proofs.Pairs.{corner, start_low}
use Rattle.half.proofs.start.Goals as goal

pub overflow_mul-result-2 : goal.overflow_mul-result-2
overflow_mul-result-2 c = omega (arith, corner c.args.i c.requires.0 c.requires.1)

pub returns : goal.returns
unfolding row_start
returns c = (refl, start_low c.args.i c.requires.0 c.requires.1)
