use Prim.Native.Nat.{◌+◌, ◌-◌, ◌*◌}
use native.Mathlib.Nat.{mul-le-mul, div-le_self}
use native.Mathlib.Omega.{arith}
use Rattle.claims.proofs.above.Goals as goal

-- `claims::above` meets its contract. Assumes nothing.
pub overflow_mul-result : goal.overflow_mul-result
overflow_mul-result c = let h = c.requires.0 in omega (arith, mul-le-mul h h)

pub overflow_add-result : goal.overflow_add-result
overflow_add-result c = let a = c.args in let h = c.requires.0 in omega (arith, mul-le-mul h h, div-le_self (a.m * a.m) (a.m + 2 - a.n))
