use Prim.Native.Nat.{◌<◌}
use mathlib.Core.Bool.{false≢true}
use native.Mathlib.Omega.{arith}
use lib.Count.{count_trailing_zeros}
use Rattle.graph.specs.Lowest.{lowest_in, rest_less}
use Rattle.block.specs.Block.{most_atoms}
use Rattle.reach.proofs.Meeting.{meeting_start, meeting_next, meeting_end}
use Rattle.reach.proofs.all_meet.Goals as goal
use Rattle.reach.proofs.all_meet.Goals.{In-loop-rest}

pub loop-rest-init : goal.loop-rest-init
loop-rest-init c = meeting_start _ _ _ (omega arith)

low : (c : In-loop-rest) → count_trailing_zeros most_atoms c.loop-rest.rest < most_atoms
low c = (lowest_in most_atoms _ c.loop-rest-test.true c.loop-rest.invariant.fits).0

pub overflow_cast-p : goal.overflow_cast-p
overflow_cast-p c = omega (arith, low (goal.at.overflow_cast-p c).In-loop-rest)

pub offset_bounds-near-p : goal.offset_bounds-near-p
offset_bounds-near-p c = omega (arith, low (goal.at.offset_bounds-near-p c).In-loop-rest)

pub bounds-near-p : goal.bounds-near-p
bounds-near-p c = low (goal.at.bounds-near-p c).In-loop-rest

pub returns-then-near-p-eq0 : goal.returns-then-near-p-eq0
returns-then-near-p-eq0 c e = absurd (false≢true e)

pub overflow_sub-rest : goal.overflow_sub-rest
overflow_sub-rest c = omega (arith, c.loop-rest-test.true)

pub loop-rest-smaller : goal.loop-rest-smaller
loop-rest-smaller c = rest_less most_atoms _ c.loop-rest-test.true c.loop-rest.invariant.fits

pub loop-rest-preserved : goal.loop-rest-preserved
loop-rest-preserved c = meeting_next _ _ _ _ c.loop-rest.invariant c.loop-rest-test.true c.if-near-p-eq0.false

pub returns : goal.returns
returns c e = meeting_end _ _ _ _ c.loop-rest.invariant c.loop-rest-test.false
