use native.Mathlib.Nat.{mul-le-mul, le_refl}
use native.Mathlib.Omega.{arith}
use Prim.Native.Nat.{◌≤◌}
use Rattle.balaban.specs.Work.{word}
use Rattle.balaban.proofs.roots.times.Goals as goal

-- `roots::times` meets its contract: a product of fractions is at most either. Assumes nothing.
pub overflow_mul-result : goal.overflow_mul-result
overflow_mul-result c =
    let h : c.args.a ≤ 4294967295 = omega arith in
    let k : c.args.b ≤ word = omega arith in
    let l = mul-le-mul h k in
    omega arith

pub returns : goal.returns
returns c =
    let k : c.args.b ≤ word = omega arith in
    let l = mul-le-mul (le_refl c.args.a) k in
    omega arith
