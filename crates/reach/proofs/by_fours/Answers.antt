use Prim.Native.Nat.{◌-◌}
use mathlib.Core.Path.{◌≡◌, refl}
use native.Mathlib.Omega.{arith}
use Rattle.graph.specs.Graph.{sum}
use Rattle.reach.proofs.Counting.{four_more}
use Rattle.reach.proofs.by_fours.Goals as goal

pub loop-k-init : goal.loop-k-init
unfolding sum
loop-k-init c = (omega arith, λ L. refl, omega arith)

pub size_of_four-met-requires : goal.size_of_four-met-requires
size_of_four-met-requires c = tt

pub overflow_add-met : goal.overflow_add-met
overflow_add-met c = omega (arith, c.size_of_four-met.ensures.1, c.loop-k.invariant.2)

pub loop-k-preserved : goal.loop-k-preserved
loop-k-preserved c =
    let l = c.loop-k in
    let a = c.args in
    let e = c.size_of_four-met.ensures in
    (omega (arith, c.loop-k-test.true), λ L. omega (arith, l.invariant.1 L, e.0, four_more a.sets.now a.q l.k L (omega (arith, c.loop-k-test.true))), omega (arith, e.1, l.invariant.2))

pub returns : goal.returns
returns c =
    let e : c.loop-k.k ≡ c.args.q = omega (arith, c.loop-k.invariant.0, c.loop-k-test.false) in
    let I = rw e at c.loop-k.invariant in
    (I.1, omega (arith, I.2, c.requires.0))
