use Prim.Native.Nat.{suc, ◌-◌}
use mathlib.Core.Path.{◌≡◌}
use native.Mathlib.Nat.{mul-le-mul, le_refl}
use native.Mathlib.Omega.{arith}
use Rattle.block.specs.Lent.{filled_none, filled_store}
use Rattle.reach.proofs.left.Goals as goal
use Rattle.reach.proofs.left.Goals.{After-slice_known-1}

pub overflow_mul-all : goal.overflow_mul-all
overflow_mul-all c = omega (arith, mul-le-mul c.requires.0 c.requires.1)

pub loop-i-init : goal.loop-i-init
loop-i-init c = (omega arith, filled_none)

pub overflow_sub-sums : goal.overflow_sub-sums
overflow_sub-sums c =
    let l = c.loop-i in
    let k : suc l.i - 1 ≡ l.i = omega arith in
    let h = rw k at (c.requires.3 (suc l.i) (record { low = omega arith; high = omega arith })) in
    omega (arith, h, l.invariant.1.kept l.i (le_refl l.i))

pub overflow_add-sums : goal.overflow_add-sums
overflow_add-sums c = let p = c.requires in omega (arith, overflow_sub-sums (goal.at.overflow_add-sums c).After-slice_known-1, mul-le-mul p.0 p.1)

pub loop-i-preserved : goal.loop-i-preserved
loop-i-preserved c =
    let l = c.loop-i in
    (omega arith, filled_store l.invariant.1 (omega (arith, l.invariant.1.same)) _ (rw (l.invariant.1.kept l.i (le_refl l.i))))

pub returns : goal.returns
returns c =
    let e : c.loop-i.i ≡ c.args.n = omega arith in
    rw e at c.loop-i.invariant.1
