use Prim.Native.Nat.{◌+◌, ◌-◌}
use mathlib.Core.Path.{◌≡◌, refl}
use native.Mathlib.Omega.{arith}
use Rattle.reach.proofs.Counting.{one_more}
use Rattle.reach.proofs.one_by_one.Goals as goal

pub loop-i-init : goal.loop-i-init
loop-i-init c = (omega arith, omega arith, omega arith)

pub size-atoms-requires : goal.size-atoms-requires
size-atoms-requires c = tt

pub overflow_add-met : goal.overflow_add-met
overflow_add-met c = omega (arith, c.size-atoms.ensures.1, c.loop-i.invariant.2)

pub loop-i-preserved : goal.loop-i-preserved
loop-i-preserved c =
    let l = c.loop-i in
    let e = c.size-atoms.ensures in
    (omega arith, omega (arith, l.invariant.1, e.0, one_more c.args.sets.now l.i (l.i + 1) refl), omega (arith, e.1, l.invariant.2))

pub returns : goal.returns
returns c =
    let e : c.loop-i.i ≡ c.args.n = omega arith in
    let I = rw e at c.loop-i.invariant in
    (I.1, omega (arith, I.2))
