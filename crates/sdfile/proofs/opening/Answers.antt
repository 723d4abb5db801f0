use native.Mathlib.Omega.{arith}
use Rattle.sdfile.proofs.Items.{opening_is, opening_not}
use Rattle.sdfile.proofs.opening.Goals as goal

-- `sdfile::opening` meets its contract. Assumes nothing.
pub returns-then-b-eq-OPENS : goal.returns-then-b-eq-OPENS
returns-then-b-eq-OPENS c = (opening_is c.args.b c.if-b-eq-OPENS.true, omega arith)

pub returns : goal.returns
returns c = (opening_not c.args.b c.if-b-eq-OPENS.false, omega arith)
