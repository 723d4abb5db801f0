use native.Mathlib.Omega.{arith}
use Rattle.block.specs.Numbered.{few_bytes}
use Rattle.balaban.proofs.Blocks.{adding_none, ends, adding_next, fits, reckoned_is}
use Rattle.balaban.proofs.reckon.Goals as goal

pub loop-k-init : goal.loop-k-init
loop-k-init c = adding_none c.requires

pub brings-total-requires : goal.brings-total-requires
brings-total-requires c = ends c.requires c.loop-k.k c.loop-k-test.true

pub overflow_add-total : goal.overflow_add-total
overflow_add-total c =
    let A = c.loop-k.invariant in
    let T = c.requires in
    omega (arith, A.low, A.done, few_bytes _ _ T.fine, c.brings-total.ensures.1)

pub loop-k-preserved : goal.loop-k-preserved
loop-k-preserved c =
    let l = c.loop-k in
    let b = c.brings-total.ensures in
    adding_next c.requires l.k c.loop-k-test.true c.brings-total.result l.invariant b.0 b.1

pub divided-requires : goal.divided-requires
divided-requires c = let A = c.loop-k.invariant in fits c.requires A (omega (arith, A.done))

pub returns : goal.returns
returns c = let A = c.loop-k.invariant in reckoned_is c.requires A (omega (arith, A.done)) _ c.divided.ensures
