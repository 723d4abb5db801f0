use Prim.Native.Nat.{ℕ, ◌+◌, ◌*◌, ◌≤◌, ◌<◌}
use mathlib.Core.List.{List}
use mathlib.Core.Path.{◌≡◌, ap}
use mathlib.Core.Bool.{Bool, true, false, cond}
use native.Mathlib.Omega.{arith}
use Rattle.graph.specs.Lowest.{lowest_in, rest_less}
use Rattle.graph.specs.Sets.{has}
use Rattle.graph.specs.Sums.{sum_le}
use Rattle.block.specs.Block.{most_atoms}
use Rattle.shares.specs.Work.{full, at, over_set}
use Rattle.shares.proofs.Sweeping.{first, less, over_less, over_none}
use Rattle.shares.proofs.sweeps.pull.Goals as goal
use Rattle.shares.proofs.sweeps.pull.Goals.{In-loop-rest}

-- all that a row has is not much
low : (set : ℕ) (row : List ℕ) → ((w : ℕ) → at row w ≤ full) → over_set set (at row) ≤ most_atoms * full
low set row h = sum_le most_atoms (λ w i. go (has set w) w)
  where
    go : (t : Bool) (w : ℕ) → cond t (at row w) 0 ≤ full
    go true w = h w
    go false w = omega arith

-- nothing is left
ended : (set : ℕ) (row : List ℕ) (rest sum : ℕ) → rest ≡ 0 → sum + over_set rest (at row) ≡ over_set set (at row) → sum ≡ over_set set (at row)
ended set row rest sum z e = omega (arith, e, ap (λ (m : ℕ). over_set m (at row)) z, over_none (at row))

pub loop-rest-init : goal.loop-rest-init
loop-rest-init c = (c.requires.0, omega arith)

small : (c : In-loop-rest) → first c.loop-rest.rest < most_atoms
small c = (lowest_in most_atoms _ c.loop-rest-test.true c.loop-rest.invariant.0).0

pub overflow_cast-a : goal.overflow_cast-a
overflow_cast-a c = omega (arith, small (goal.at.overflow_cast-a c).In-loop-rest)

pub overflow_sub-rest : goal.overflow_sub-rest
overflow_sub-rest c = omega (arith, c.loop-rest-test.true)

pub overflow_add-sum : goal.overflow_add-sum
overflow_add-sum c = omega (arith, small (goal.at.overflow_add-sum c).In-loop-rest)

pub offset_bounds-row-a : goal.offset_bounds-row-a
offset_bounds-row-a c = omega (arith, small (goal.at.offset_bounds-row-a c).In-loop-rest)

pub bounds-row-a : goal.bounds-row-a
bounds-row-a c = omega (arith, small (goal.at.bounds-row-a c).In-loop-rest, c.requires.1)

-- the atom that is taken, and what is left
step : (c : In-loop-rest) → let l = c.loop-rest in let a = c.args in
    l.sum + at a.row.now (first l.rest + 1) + over_set (less l.rest) (at a.row.now) ≡ over_set a.set (at a.row.now)
step c = omega (arith, c.loop-rest.invariant.1, over_less _ c.loop-rest-test.true c.loop-rest.invariant.0 (at c.args.row.now))

fewer : (c : In-loop-rest) → less c.loop-rest.rest < c.loop-rest.rest
fewer c = rest_less most_atoms _ c.loop-rest-test.true c.loop-rest.invariant.0

pub overflow_add-sum-in-loop-rest : goal.overflow_add-sum-in-loop-rest
overflow_add-sum-in-loop-rest c = let a = c.args in omega (arith, step (goal.at.overflow_add-sum-in-loop-rest c).In-loop-rest, low a.set a.row.now c.requires.2)

pub loop-rest-smaller : goal.loop-rest-smaller
loop-rest-smaller c = fewer (goal.at.loop-rest-smaller c).In-loop-rest

pub loop-rest-preserved : goal.loop-rest-preserved
loop-rest-preserved c = (omega (arith, fewer (goal.at.loop-rest-preserved c).In-loop-rest, c.loop-rest.invariant.0), step (goal.at.loop-rest-preserved c).In-loop-rest)

pub returns : goal.returns
returns c =
    let l = c.loop-rest in
    let a = c.args in
    let e = ended a.set a.row.now l.rest l.sum c.loop-rest-test.false l.invariant.1 in
    (e, omega (arith, e, low a.set a.row.now c.requires.2))
