use Prim.Native.Nat.{min}
use mathlib.Core.Path.{◌≡◌, sym, ◌∙◌}
use native.Mathlib.Omega.{arith}
use Rattle.records.proofs.Numbers.{past, none_yet, room, one_before, all_read}
use Rattle.records.proofs.little.get_bytes.Goals as goal

pub returns-then-d-at : goal.returns-then-d-at
returns-then-d-at c = let a = c.args in sym (past (min a.width 8) a.d.now a.at c.if-d-at.true)

pub loop-k-init : goal.loop-k-init
loop-k-init c = (omega arith, rw c.up_to_eight-k.ensures (none_yet (omega arith)))

pub overflow_mul-n : goal.overflow_mul-n
overflow_mul-n c = omega (arith, room c.loop-k-test.true c.loop-k.invariant.1)

pub overflow_add-at : goal.overflow_add-at
overflow_add-at c = let l = c.loop-k in omega (arith, l.invariant.0, l.invariant.1.few, l.invariant.1.left)

pub overflow_add-n : goal.overflow_add-n
overflow_add-n c = let l = c.loop-k in omega (arith, room c.loop-k-test.true l.invariant.1, c.wide.ensures.1)

pub loop-k-smaller : goal.loop-k-smaller
loop-k-smaller c = let t = c.loop-k-test.true in omega arith

pub loop-k-preserved : goal.loop-k-preserved
loop-k-preserved c =
    let l = c.loop-k in
    (l.invariant.0, one_before c.wide.result c.loop-k-test.true (c.wide.ensures.0 ∙ c.byte_at.ensures) c.wide.ensures.1 l.invariant.1)

pub returns : goal.returns
returns c =
    let l = c.loop-k in
    let z : l.k ≡ 0 = omega (arith, c.loop-k-test.false) in
    all_read (rw z at l.invariant.1)
