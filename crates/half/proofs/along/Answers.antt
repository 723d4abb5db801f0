use mathlib.Core.Path.{◌≡◌}
use native.Mathlib.Omega.{arith}
use Rattle.half.specs.Half.{most_atoms}
use Rattle.half.proofs.Lines.{along_place, along_next}
use Rattle.half.proofs.along.Goals as goal

pub start-from-requires : goal.start-from-requires
start-from-requires c = (c.requires.0, c.requires.1)

pub loop-j-init : goal.loop-j-init
loop-j-init c = (c.requires.0, omega arith, c.requires.1, c.start-from.ensures.0, c.requires.2)

pub overflow_sub-line : goal.overflow_sub-line
overflow_sub-line c = c.loop-j.invariant.1

pub overflow_add-line : goal.overflow_add-line
overflow_add-line c = omega (arith, c.start-from.ensures.1)

pub bounds-half-from : goal.bounds-half-from
bounds-half-from c = let v = c.loop-j.invariant in along_place _ _ _ v.0 v.1 c.loop-j-test.true v.3

pub loop-j-preserved : goal.loop-j-preserved
loop-j-preserved c = let v = c.loop-j.invariant in (v.0, omega arith, omega arith, v.3, along_next _ _ _ _ _ v.0 v.1 c.loop-j-test.true v.3 v.4)

pub returns : goal.returns
returns c = let e : c.loop-j.j ≡ most_atoms = omega arith in (rw e at c.loop-j.invariant.4)
