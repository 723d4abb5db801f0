use native.Mathlib.Omega.{arith}
use Rattle.half.proofs.Lines.{down_first, down_place, down_next, down_last}
use Rattle.half.proofs.column.Goals as goal

pub loop-j-init : goal.loop-j-init
loop-j-init c = down_first _ _ c.requires.0 c.requires.1

pub overflow_sub-line : goal.overflow_sub-line
overflow_sub-line c = (down_place c.loop-j.invariant c.loop-j-test.true).0

pub bounds-half-p : goal.bounds-half-p
bounds-half-p c = (down_place c.loop-j.invariant c.loop-j-test.true).1

pub overflow_sub-line-in-loop-j : goal.overflow_sub-line-in-loop-j
overflow_sub-line-in-loop-j c = c.loop-j.invariant.low

pub bounds-line-j : goal.bounds-line-j
bounds-line-j c = omega (arith, c.loop-j.invariant.high, c.loop-j.invariant.most)

pub overflow_sub-p-in-loop-j : goal.overflow_sub-p-in-loop-j
overflow_sub-p-in-loop-j c = omega (arith, c.loop-j.invariant.most, c.loop-j-test.true)

pub overflow_add-p : goal.overflow_add-p
overflow_add-p c = omega (arith, c.loop-j.invariant.near, c.loop-j.invariant.high, c.loop-j.invariant.most)

pub loop-j-preserved : goal.loop-j-preserved
loop-j-preserved c = down_next c.loop-j.invariant c.loop-j-test.true

pub returns : goal.returns
returns c = down_last c.loop-j.invariant c.loop-j-test.false
