use native.Mathlib.Omega.{arith}
use Rattle.sets.proofs.Keying.{keying_start, first_adds, second_adds, keying_next, keying_end}
use Rattle.sets.proofs.keyed.Goals as goal

pub loop-k-init : goal.loop-k-init
loop-k-init c = (omega arith, keying_start _ _ c.requires.start)

pub add-requires : goal.add-requires
add-requires c =
    first_adds c.requires c.loop-k.invariant.1 c.loop-k-test.true c.wide-a.ensures.0 c.wide-b.ensures.0

pub add-requires-in-loop-k : goal.add-requires-in-loop-k
add-requires-in-loop-k c =
    second_adds c.requires c.loop-k.invariant.1 c.loop-k-test.true c.wide-a.ensures.0 c.wide-b.ensures.0 c.add.ensures

pub loop-k-preserved : goal.loop-k-preserved
loop-k-preserved c =
    (omega arith, keying_next c.requires c.loop-k.invariant.1 c.loop-k-test.true c.wide-a.ensures.0 c.wide-b.ensures.0 c.add.ensures c.add-in-loop-k.ensures)

pub returns : goal.returns
returns c = keying_end c.loop-k.invariant.1 c.loop-k-test.false
