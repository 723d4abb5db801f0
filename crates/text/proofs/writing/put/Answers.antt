use Prim.Native.Nat.{◌-◌, ◌<◌}
use mathlib.Core.Path.{refl, ◌∙◌}
use native.Mathlib.Omega.{arith}
use lib.ListN.{length, get_or, length-set}
use borrow.Author.Tests.{ltb-true, ltb-false}
use Rattle.text.proofs.Putting.{one_more, all_put, no_room}
use Rattle.text.proofs.writing.put.Goals as goal

pub loop-i-init : goal.loop-i-init
loop-i-init c = (omega arith, omega arith, omega arith, refl, refl)

pub overflow_add-k : goal.overflow_add-k
overflow_add-k c = omega (arith, ltb-true)

pub loop-i-preserved : goal.loop-i-preserved
loop-i-preserved c =
    let now-at = c.loop-i in
    let a = c.args in
    let room : now-at.k < length now-at.out = omega (arith, ltb-true) in (
      omega arith,
      omega arith,
      omega arith,
      length-set now-at.out now-at.k (get_or a.word.now now-at.i 0) ∙ now-at.invariant.3,
      one_more a.out.now a.at a.word.now now-at.out now-at.k now-at.i now-at.invariant.2 (omega arith) now-at.invariant.4,
    )

pub returns-else-k-out : goal.returns-else-k-out
returns-else-k-out c =
    let now-at = c.loop-i in
    let a = c.args in
    no_room a.out.now a.at a.word.now now-at.out now-at.k now-at.i now-at.invariant.0 now-at.invariant.2 now-at.invariant.4 (omega (arith, ltb-false)) now-at.invariant.1

pub returns-after-loop-i : goal.returns-after-loop-i
returns-after-loop-i c =
    let now-at = c.loop-i in
    let a = c.args in
    all_put a.out.now a.at a.word.now now-at.out now-at.k now-at.i now-at.invariant.0 now-at.invariant.2 now-at.invariant.4 (omega arith) now-at.invariant.1
