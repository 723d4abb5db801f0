use native.Mathlib.Nat.{mul-le-mul}
use native.Mathlib.Omega.{arith}
use mathlib.Core.Path.{refl}
use Rattle.joining.proofs.times.Goals as goal

-- `joining::times` meets its contract. Assumes nothing.
pub overflow_mul-result : goal.overflow_mul-result
overflow_mul-result c = let h = mul-le-mul c.requires.0 c.requires.1 in omega arith

pub returns : goal.returns
returns c = (refl, mul-le-mul c.requires.0 c.requires.1)
