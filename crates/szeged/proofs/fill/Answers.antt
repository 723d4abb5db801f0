use native.Mathlib.Omega.{arith}
use Rattle.block.specs.Told.{few_atoms}
use Rattle.block.specs.Numbered.{few_bytes}
use Rattle.szeged.proofs.Filling.{filling_none, filling_next, filling_done}
use Rattle.szeged.proofs.fill.Goals as goal

pub loop-k-init : goal.loop-k-init
loop-k-init c = filling_none _ _ _

pub term-t-requires : goal.term-t-requires
term-t-requires c = (few_atoms _ _ c.requires.fine).high

pub bounds-out-k : goal.bounds-out-k
bounds-out-k c = omega (arith, c.loop-k.invariant.entries.same, c.requires.room)

pub overflow_add-total : goal.overflow_add-total
overflow_add-total c = omega (arith, c.loop-k.invariant.low, few_bytes _ _ c.requires.fine, c.term-t.ensures.most)

pub loop-k-preserved : goal.loop-k-preserved
loop-k-preserved c = filling_next _ _ _ c.requires c.loop-k.invariant c.loop-k-test.true c.term-t.ensures

pub shape_of-out : goal.shape_of-out
shape_of-out c = c.loop-k.invariant.entries.same

pub returns : goal.returns
returns c = filling_done _ _ _ c.loop-k.invariant (omega (arith, c.loop-k.invariant.done))
