use native.Mathlib.Omega.{arith}
use Rattle.printed.proofs.Reading.{unit_is, unit_some}
use Rattle.printed.proofs.unit.Reads as reads
use Rattle.printed.proofs.unit.Lts as lts
use Rattle.printed.proofs.unit.Goals as goal

-- `printed::unit` meets its contract. Assumes nothing.
pub returns : goal.returns
returns c = let e = unit_is c.args.f c.requires in (e, omega (arith, e, unit_some c.args.f))
