use native.Mathlib.Omega.{arith}
use Rattle.joining.specs.Parts.{both}
use Rattle.joining.proofs.with.Goals as goal

-- `joining::with` meets its contract. Assumes nothing.
pub overflow_add-result-6 : goal.overflow_add-result-6
overflow_add-result-6 c = let p = c.requires in omega arith

pub overflow_add-result-7 : goal.overflow_add-result-7
overflow_add-result-7 c = let p = c.requires in omega arith

pub returns : goal.returns
unfolding both
returns c = rw c.larger.ensures
