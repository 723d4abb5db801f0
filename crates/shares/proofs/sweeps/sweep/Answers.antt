use Prim.Native.Nat.{◌+◌, ◌<◌}
use mathlib.Core.Path.{refl, ◌∙◌}
use native.Mathlib.Omega.{arith}
use lib.ListN.{length, length-set}
use Rattle.graph.specs.Lowest.{lowest_in, rest_less}
use Rattle.block.specs.Block.{most_atoms}
use Rattle.shares.proofs.Rows.{store_low}
use Rattle.shares.proofs.Sweeping.{first, less, wide_set, asked_fits, sweeping_start, sweeping_level, sweeping_take, sweeping_done}
use Rattle.shares.proofs.sweeps.sweep.Goals as goal
use Rattle.shares.proofs.sweeps.sweep.Goals.{Else-rest-ne0, Then-rest-ne0}

pub loop-d-init : goal.loop-d-init
loop-d-init c = let p = c.requires in (omega arith, p.1, p.2, λ n key L. L.fits 0, λ n B key F N L R. sweeping_start N L R _ (λ w. refl))

-- the atom at hand
small : (c : Then-rest-ne0) → first c.loop-d.rest < most_atoms
small c =
    let p = c.requires.0 in
    (lowest_in most_atoms _ c.if-rest-ne0.true (wide_set p.4.small (c.loop-d.invariant.3 _ _ p.4))).0

pub overflow_cast-a : goal.overflow_cast-a
overflow_cast-a c = omega (arith, small (goal.at.overflow_cast-a c).Then-rest-ne0)

pub overflow_sub-rest : goal.overflow_sub-rest
overflow_sub-rest c = omega (arith, c.if-rest-ne0.true)

pub offset_bounds-near-a : goal.offset_bounds-near-a
offset_bounds-near-a c = omega (arith, small (goal.at.offset_bounds-near-a c).Then-rest-ne0)

pub bounds-near-a : goal.bounds-near-a
bounds-near-a c = omega (arith, small (goal.at.bounds-near-a c).Then-rest-ne0)

-- what is left of those that wait
fewer : (c : Then-rest-ne0) → let r = c.loop-d.rest in less r < r
fewer c =
    let p = c.requires.0 in
    rest_less most_atoms _ c.if-rest-ne0.true (wide_set p.4.small (c.loop-d.invariant.3 _ _ p.4))

pub pull-s-requires : goal.pull-s-requires
pull-s-requires c =
    let l = c.loop-d in
    let p = c.requires.0 in
    (wide_set p.4.small (asked_fits p.4.small l.rest (l.invariant.3 _ _ p.4) c.if-rest-ne0.true l.below p.3), l.invariant.1, λ w. omega (arith, l.invariant.2 w, p.5))

pub overflow_add-a : goal.overflow_add-a
overflow_add-a c = omega (arith, small (goal.at.overflow_add-a c).Then-rest-ne0)

pub offset_bounds-row-a : goal.offset_bounds-row-a
offset_bounds-row-a c = omega (arith, small (goal.at.offset_bounds-row-a c).Then-rest-ne0)

pub bounds-row-a : goal.bounds-row-a
bounds-row-a c = omega (arith, small (goal.at.bounds-row-a c).Then-rest-ne0, c.loop-d.invariant.1)

pub add-requires : goal.add-requires
add-requires c =
    let l = c.loop-d in
    (c.pull-s.ensures.1, omega (arith, l.invariant.2 (first l.rest + 1), c.requires.0.5))

pub overflow_add-row : goal.overflow_add-row
overflow_add-row c = omega (arith, small (goal.at.overflow_add-row c).Then-rest-ne0)

pub offset_bounds-row-a-then-rest-ne0 : goal.offset_bounds-row-a-then-rest-ne0
offset_bounds-row-a-then-rest-ne0 c = omega (arith, small (goal.at.offset_bounds-row-a-then-rest-ne0 c).Then-rest-ne0)

pub bounds-row-a-then-rest-ne0 : goal.bounds-row-a-then-rest-ne0
bounds-row-a-then-rest-ne0 c = omega (arith, small (goal.at.bounds-row-a-then-rest-ne0 c).Then-rest-ne0, c.loop-d.invariant.1)

pub loop-d-smaller-then-rest-ne0 : goal.loop-d-smaller-then-rest-ne0
loop-d-smaller-then-rest-ne0 c =
    omega (arith, fewer (goal.at.loop-d-smaller-then-rest-ne0 c).Then-rest-ne0)

pub loop-d-preserved-then-rest-ne0 : goal.loop-d-preserved-then-rest-ne0
loop-d-preserved-then-rest-ne0 c =
    let l = c.loop-d in
    let x = c.add in
    let s = c.pull-s in
    let far : first l.rest + 1 < length l.row = omega (arith, small (goal.at.loop-d-preserved-then-rest-ne0 c).Then-rest-ne0, l.invariant.1) in (
      l.invariant.0,
      length-set l.row (first l.rest + 1) x.result ∙ l.invariant.1,
      store_low l.row (first l.rest + 1) x.result far l.invariant.2 (omega (arith, x.ensures)),
      λ n key L. omega (arith, fewer (goal.at.loop-d-preserved-then-rest-ne0 c).Then-rest-ne0, l.invariant.3 n key L),
      λ n B key F N L R. sweeping_take N L R l.d l.below l.rest l.row (l.invariant.4 n B key F N L R) c.loop-d-test.true c.if-rest-ne0.true s.result x.result s.ensures.0 x.ensures far,
    )

-- the level has a place among the sets
placed : (c : Else-rest-ne0) → c.loop-d.d < most_atoms
placed c = omega (arith, c.requires.0.4.low, c.loop-d-test.true)

pub offset_bounds-sets-d : goal.offset_bounds-sets-d
offset_bounds-sets-d c = omega (arith, placed (goal.at.offset_bounds-sets-d c).Else-rest-ne0)

pub bounds-sets-d : goal.bounds-sets-d
bounds-sets-d c = omega (arith, placed (goal.at.bounds-sets-d c).Else-rest-ne0)

pub overflow_add-d : goal.overflow_add-d
overflow_add-d c = omega (arith, placed (goal.at.overflow_add-d c).Else-rest-ne0)

pub offset_bounds-sets-d-else-rest-ne0 : goal.offset_bounds-sets-d-else-rest-ne0
offset_bounds-sets-d-else-rest-ne0 c = omega (arith, placed (goal.at.offset_bounds-sets-d-else-rest-ne0 c).Else-rest-ne0)

pub bounds-sets-d-else-rest-ne0 : goal.bounds-sets-d-else-rest-ne0
bounds-sets-d-else-rest-ne0 c = omega (arith, placed (goal.at.bounds-sets-d-else-rest-ne0 c).Else-rest-ne0)

pub loop-d-smaller : goal.loop-d-smaller
loop-d-smaller c =
    let p = c.requires.0 in
    omega (arith, c.loop-d-test.true, wide_set p.4.small (p.4.fits (c.loop-d.d + 1)))

pub loop-d-preserved : goal.loop-d-preserved
loop-d-preserved c =
    let l = c.loop-d in (
      omega (arith, c.loop-d-test.true),
      l.invariant.1,
      l.invariant.2,
      λ n key L. L.fits (l.d + 1),
      λ n B key F N L R. sweeping_level N L R l.d l.below l.rest l.row (l.invariant.4 n B key F N L R) c.loop-d-test.true c.if-rest-ne0.false,
    )

pub shape_of-row : goal.shape_of-row
shape_of-row c = omega (arith, c.loop-d.invariant.1, c.requires.1)

pub returns : goal.returns
returns c n B key F N L R =
    let l = c.loop-d in
    sweeping_done N L R l.d l.below l.rest l.row (l.invariant.4 n B key F N L R) c.loop-d-test.false
