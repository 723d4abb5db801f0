use native.Mathlib.Omega.{arith}
use Rattle.half.specs.Places.{place_is}
use Rattle.half.proofs.above.Goals as goal

pub returns : goal.returns
returns c = omega (arith, place_is c.args.i c.args.j, c.start.ensures)
