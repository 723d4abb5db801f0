use native.Mathlib.Omega.{arith}
use Rattle.records.specs.Bytes.{little}
use Rattle.assembly.proofs.two_at.Goals as goal

-- `assembly::two_at` meets its contract. Assumes nothing.
pub returns : goal.returns
unfolding little
returns c = omega (arith, c.pair.ensures)
