use Prim.Native.Nat.{suc, ◌-◌}
use mathlib.Core.Path.{◌≡◌}
use native.Mathlib.Nat.{le_refl}
use native.Mathlib.Omega.{arith}
use Rattle.block.specs.Lent.{filled_none, filled_store}
use Rattle.reach.proofs.count.Goals as goal

pub loop-i-init : goal.loop-i-init
loop-i-init c = (omega arith, filled_none)

pub size-atoms-requires : goal.size-atoms-requires
size-atoms-requires c = tt

pub overflow_add-reached : goal.overflow_add-reached
overflow_add-reached c =
    let i = c.loop-i.i in
    let k : suc i - 1 ≡ i = omega arith in
    let room = rw k at (c.requires.2.room (suc i) (record { low = omega arith; high = omega arith })) in
    omega (arith, room, c.loop-i.invariant.1.kept i (le_refl i), c.size-atoms.ensures.1)

pub loop-i-preserved : goal.loop-i-preserved
loop-i-preserved c =
    let l = c.loop-i in
    (omega arith, filled_store l.invariant.1 (omega (arith, l.invariant.1.same)) _ (rw (l.invariant.1.kept l.i (le_refl l.i), c.size-atoms.ensures.0)))

pub returns : goal.returns
returns c =
    let e : c.loop-i.i ≡ c.args.k = omega arith in
    rw e at c.loop-i.invariant.1
