use Prim.Native.Nat.{◌-◌, ◌<◌}
use mathlib.Core.Path.{sym}
use native.Mathlib.Omega.{arith}
use borrow.Author.Tests.{ltb-true}
use Rattle.sighted.proofs.Running.{run_start, run_size, odd_less, low_next, run_next, run_end}
use Rattle.sighted.proofs.search.Goals as goal
use Rattle.sighted.proofs.search.Goals.{then-loop-level-test+else-d-n, else-loop-level-test}
use Rattle.sighted.proofs.search.Goals.{Then-d-n}

pub loop-level-init : goal.loop-level-init
loop-level-init c = let p = c.requires in rw (p.1, p.2) (run_start _ _ _ p.0)

-- in a turn there is a level left
shallow : (c : Then-d-n) → c.loop-level.d < c.args.n
shallow c = ltb-true _ _ c.if-d-n.true-raw

pub slice_bounds-look-end : goal.slice_bounds-look-end
slice_bounds-look-end c = sym (run_size _ _ _ _ _ _ _ _ c.loop-level.invariant)

pub look-found-requires : goal.look-found-requires
look-found-requires c = run_size _ _ _ _ _ _ _ _ c.loop-level.invariant

pub counted-tally-requires : goal.counted-tally-requires
counted-tally-requires c =
    low_next _ _ _ _ _ _ _ _ c.loop-level.invariant c.loop-level-test.true _ _ c.look-found.ensures (shallow (goal.at.counted-tally-requires c).Then-d-n)

pub overflow_add-d : goal.overflow_add-d
overflow_add-d c = let S = c.loop-level.invariant in omega (arith, S.deep, S.few)

pub loop-level-smaller : goal.loop-level-smaller
loop-level-smaller c = omega (arith, shallow (goal.at.loop-level-smaller c).Then-d-n)

pub loop-level-preserved : goal.loop-level-preserved
loop-level-preserved c =
    rw c.counted-tally.ensures
    (run_next _ _ _ _ _ _ _ _ c.loop-level.invariant c.loop-level-test.true _ _ c.look-found.ensures (shallow (goal.at.loop-level-preserved c).Then-d-n))

pub whole-counts-requires : goal.whole-counts-requires
whole-counts-requires c = odd_less _ _ _ _ _ _ _ _ c.loop-level.invariant

pub returns : goal.returns
returns c =
    let l = c.loop-level in
    rw (c.whole-counts.ensures, c.last-farthest.ensures) (run_end _ _ _ _ _ _ _ _ l.invariant (λ h.
    elim c.loop-level-test.branch [
      | then-loop-level-test+else-d-n w ↦ absurd (omega (arith, h, w.if-d-n.false))
      | else-loop-level-test w ↦ w.loop-level-test.false
    ]))
