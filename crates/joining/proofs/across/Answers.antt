use native.Mathlib.Omega.{arith}
use Rattle.joining.proofs.across.Goals as goal

-- `joining::across` meets its contract. Assumes nothing.
pub returns : goal.returns
returns c = (omega arith, omega arith)
