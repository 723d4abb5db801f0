use Prim.Native.Nat.{◌*◌, ◌/◌}
use mathlib.Core.Path.{◌≡◌, ◌∙◌}
use native.Mathlib.Nat.{div-le_self, div-mul_cancel, dvd_of_mod-eq-zero}
use native.Mathlib.Omega.{arith}
use Rattle.graph.specs.Paths.{lcm}
use Rattle.graph.specs.Lcm.{lcm_gcd, gcd_step, gcd_end}
use Rattle.shares.proofs.Tallying.{divisor_pos, product_fits}
use Rattle.shares.proofs.common.common.Goals as goal
use Rattle.shares.proofs.common.common.Goals.{After-gcd}

-- `common` meets its contract: by the greatest common divisor, which is b where b divides a.
pub returns-then-a-b-eq0 : goal.returns-then-a-b-eq0
returns-then-a-b-eq0 c =
    let a = c.args.a in
    let b = c.args.b in
    let p = c.requires in
    let least : lcm a b ≡ a = lcm_gcd a b p.0 p.2 b (gcd_step a b b (rw c.if-a-b-eq0.true (gcd_end b))) ∙ div-mul_cancel b (dvd_of_mod-eq-zero b c.if-a-b-eq0.true) in
    omega arith

pub gcd-requires : goal.gcd-requires
gcd-requires c = tt

pub nonzero_div-m : goal.nonzero_div-m
nonzero_div-m c = divisor_pos c.gcd.ensures c.requires.0

pub overflow_mul-m : goal.overflow_mul-m
overflow_mul-m c = let a = c.args in let p = c.requires in product_fits (a.a / c.gcd.result) a.b (omega (arith, div-le_self a.a c.gcd.result)) (omega arith)

-- the multiple that is worked out
least : (c : After-gcd) → let a = c.args in lcm a.a a.b ≡ a.a / c.gcd.result * a.b
least c = let a = c.args in let p = c.requires in lcm_gcd a.a a.b p.0 p.2 c.gcd.result c.gcd.ensures

pub returns-then-m-lt-CAP : goal.returns-then-m-lt-CAP
returns-then-m-lt-CAP c = omega (arith, least (goal.at.returns-then-m-lt-CAP c).After-gcd)

pub returns-else-m-lt-CAP : goal.returns-else-m-lt-CAP
returns-else-m-lt-CAP c = omega (arith, least (goal.at.returns-else-m-lt-CAP c).After-gcd)
