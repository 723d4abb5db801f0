use native.Mathlib.Nat.{mul-le-mul}
use native.Mathlib.Omega.{arith}
use Rattle.balaban.proofs.divided.Goals as goal

-- `balaban::divided` meets its contract: the product fits, and the divisor is not 0. Assumes nothing.
pub overflow_mul-result : goal.overflow_mul-result
overflow_mul-result c = let l = mul-le-mul c.requires.0 c.requires.1 in omega arith
