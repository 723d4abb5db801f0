use Prim.Native.Nat.{◌-◌}
use mathlib.Core.Path.{◌≡◌}
use native.Mathlib.Omega.{arith}
use Rattle.graph.specs.SetLaws.{shifted_one}
use Rattle.block.specs.Block.{most_atoms}
use Rattle.block.specs.Lent.{filled_none, filled_store}
use Rattle.reach.proofs.with_neighbours.Goals as goal
use Rattle.reach.proofs.with_neighbours.Goals.{After-set-1}

pub loop-i-init : goal.loop-i-init
loop-i-init c = (omega arith, filled_none, filled_none)

pub bounds-odd-i : goal.bounds-odd-i
bounds-odd-i c = omega (arith, c.loop-i.invariant.1.same)

pub bounds-even-i : goal.bounds-even-i
bounds-even-i c = omega (arith, c.loop-i.invariant.2.same)

pub loop-i-preserved : goal.loop-i-preserved
loop-i-preserved c =
    let l = c.loop-i in
    let e = shifted_one most_atoms l.i (omega arith) in
    (omega arith, filled_store l.invariant.1 (bounds-odd-i (goal.at.loop-i-preserved c).After-set-1) _ (rw e), filled_store l.invariant.2 (bounds-even-i (goal.at.loop-i-preserved c).After-set-1) _ (rw e))

pub shape_of-odd : goal.shape_of-odd
shape_of-odd c = c.loop-i.invariant.1.same

pub shape_of-even : goal.shape_of-even
shape_of-even c = c.loop-i.invariant.2.same

pub returns : goal.returns
returns c =
    let e : c.loop-i.i ≡ c.args.n = omega arith in
    let I = rw e at c.loop-i.invariant in
    (record { set_is = λ v w. I.1.first (v - 1) (omega arith) }, record { set_is = λ v w. I.2.first (v - 1) (omega arith) })
