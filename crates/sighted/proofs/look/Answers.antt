use Prim.Native.Nat.{◌<◌}
use native.Mathlib.Omega.{arith}
use lib.Count.{ones-le}
use Rattle.graph.specs.Lowest.{lowest_in, rest_less}
use Rattle.block.specs.Block.{most_atoms}
use Rattle.sighted.proofs.Looking.{lowest_of, look_start, look_next, look_end}
use Rattle.sighted.proofs.look.Goals as goal
use Rattle.sighted.proofs.look.Goals.{In-loop-level}

pub loop-level-init : goal.loop-level-init
loop-level-init c = look_start _ _ _ _ c.requires (omega arith)

low : (c : In-loop-level) → lowest_of c.loop-level.level < most_atoms
low c = (lowest_in most_atoms _ c.loop-level-test.true c.loop-level.invariant.fits).0

pub overflow_cast-p : goal.overflow_cast-p
overflow_cast-p c = omega (arith, low (goal.at.overflow_cast-p c).In-loop-level)

pub overflow_sub-level : goal.overflow_sub-level
overflow_sub-level c = omega (arith, c.loop-level-test.true)

pub bounds-row-p : goal.bounds-row-p
bounds-row-p c = omega (arith, low (goal.at.bounds-row-p c).In-loop-level, c.loop-level.invariant.size)

pub set_at-found-requires : goal.set_at-found-requires
set_at-found-requires c = low (goal.at.set_at-found-requires c).In-loop-level

pub overflow_add-atoms : goal.overflow_add-atoms
overflow_add-atoms c = omega (arith, c.loop-level.invariant.number, ones-le most_atoms c.args.first (omega arith))

pub loop-level-smaller : goal.loop-level-smaller
loop-level-smaller c = rest_less most_atoms _ c.loop-level-test.true c.loop-level.invariant.fits

pub loop-level-preserved : goal.loop-level-preserved
loop-level-preserved c = rw c.set_at-found.ensures (look_next _ _ _ _ _ _ _ _ c.loop-level.invariant c.loop-level-test.true)

pub shape_of-row : goal.shape_of-row
shape_of-row c = omega (arith, c.loop-level.invariant.size, c.requires)

pub returns : goal.returns
returns c = look_end _ _ _ _ _ _ _ _ c.loop-level.invariant c.loop-level-test.false
