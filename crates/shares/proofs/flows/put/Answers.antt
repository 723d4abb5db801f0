use mathlib.Core.Path.{◌≡◌, refl}
use native.Mathlib.Omega.{arith}
use Rattle.block.specs.Lent.{filled_none, filled_store}
use Rattle.shares.proofs.flows.put.Goals as goal

pub loop-j-init : goal.loop-j-init
loop-j-init c = (omega arith, filled_none)

pub bounds-out-j : goal.bounds-out-j
bounds-out-j c = omega (arith, c.loop-j.invariant.1.same)

pub loop-j-preserved : goal.loop-j-preserved
loop-j-preserved c = let l = c.loop-j in (omega arith, filled_store l.invariant.1 (omega (arith, l.invariant.1.same)) _ refl)

pub shape_of-out : goal.shape_of-out
shape_of-out c = c.loop-j.invariant.1.same

pub returns : goal.returns
returns c = let e : c.loop-j.j ≡ c.args.m = omega arith in rw e at c.loop-j.invariant.1
