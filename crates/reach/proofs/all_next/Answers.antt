use Prim.Native.Nat.{◌-◌}
use mathlib.Core.Bool.{false≢true}
use native.Mathlib.Omega.{arith}
use borrow.Author.Tests.{not-false}
use Rattle.reach.proofs.Meeting.{next_more}
use Rattle.reach.proofs.all_next.Goals as goal

pub first_atoms-all-requires : goal.first_atoms-all-requires
first_atoms-all-requires c = tt

pub loop-i-init : goal.loop-i-init
loop-i-init c = (omega arith, λ v w. absurd (omega arith))

pub offset_bounds-drawn-i : goal.offset_bounds-drawn-i
offset_bounds-drawn-i c = omega (arith, c.requires, c.loop-i-test.true)

pub bounds-drawn-i : goal.bounds-drawn-i
bounds-drawn-i c = omega (arith, c.requires, c.loop-i-test.true)

pub offset_bounds-near-i : goal.offset_bounds-near-i
offset_bounds-near-i c = omega (arith, c.requires, c.loop-i-test.true)

pub bounds-near-i : goal.bounds-near-i
bounds-near-i c = omega (arith, c.requires, c.loop-i-test.true)

pub all_meet-requires : goal.all_meet-requires
all_meet-requires c = tt

pub returns-then-not-all_meet : goal.returns-then-not-all_meet
returns-then-not-all_meet c e = absurd (false≢true e)

pub loop-i-preserved : goal.loop-i-preserved
loop-i-preserved c =
    let a = c.args in
    (omega arith, next_more _ _ _ a.near.now a.drawn.now c.requires c.first_atoms-all.ensures c.loop-i.invariant.1 (c.all_meet.ensures (not-false _ c.if-not-all_meet.false-raw)))

pub returns : goal.returns
returns c e v w = c.loop-i.invariant.1 v (omega (arith, c.loop-i-test.false))
