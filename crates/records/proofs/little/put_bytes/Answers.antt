use Prim.Native.Nat.{◌<◌}
use mathlib.Core.Path.{refl, sym, ◌∙◌}
use native.Mathlib.Omega.{arith}
use borrow.Author.Tests.{ltb-true, ltb-false}
use lib.ListN.{length, length-set}
use Rattle.records.specs.Bytes.{little_bytes}
use Rattle.records.proofs.Putting.{one_byte, no_byte, sets_past}
use Rattle.records.proofs.little.put_bytes.Goals as goal
use Rattle.records.proofs.little.put_bytes.Goals.{Then-k-out}

pub loop-left-init : goal.loop-left-init
loop-left-init c = (refl, refl)

pub low-requires : goal.low-requires
low-requires c = tt

-- the byte is there
there : (c : Then-k-out) → let l = c.loop-left in l.k < length l.out
there c = let l = c.loop-left in ltb-true l.k (length l.out) c.if-k-out.true-raw

pub bounds-out-k : goal.bounds-out-k
bounds-out-k c = there (goal.at.bounds-out-k c).Then-k-out

pub overflow_add-k : goal.overflow_add-k
overflow_add-k c = omega (arith, there (goal.at.overflow_add-k c).Then-k-out)

pub loop-left-preserved : goal.loop-left-preserved
loop-left-preserved c =
    let l = c.loop-left in
    (length-set l.out l.k c.low.result ∙ l.invariant.0, l.invariant.1 ∙ one_byte l.out l.k l.left l.rest c.loop-left-test.true c.low.ensures)

pub returns-else-k-out : goal.returns-else-k-out
returns-else-k-out c =
    let l = c.loop-left in
    sym (l.invariant.1 ∙ sets_past (little_bytes l.left l.rest) l.out l.k (ltb-false l.k (length l.out) c.if-k-out.false-raw))

pub returns-after-loop-left : goal.returns-after-loop-left
returns-after-loop-left c =
    let l = c.loop-left in
    sym (l.invariant.1 ∙ no_byte l.out l.k l.left l.rest c.loop-left-test.false)
