use Prim.Native.Nat.{◌+◌, ◌≤◌}
use native.Mathlib.Nat.{mul-le-mul}
use native.Mathlib.Omega.{arith}
use Rattle.balaban.specs.Work.{unit}
use Rattle.balaban.proofs.Squares.{root_fits}
use Rattle.balaban.proofs.roots.up.Goals as goal
use Rattle.balaban.proofs.roots.up.Goals.{In-loop-t}

pub loop-t-init : goal.loop-t-init
loop-t-init c = c.requires

pub overflow_mul-t : goal.overflow_mul-t
overflow_mul-t c =
    let h : c.loop-t.t + 1 ≤ unit + 1 = omega arith in
    let l = mul-le-mul h h in
    omega arith

below : (c : In-loop-t) → c.loop-t.t + 1 ≤ unit
below c = let l = c.loop-t-test.true in root_fits (c.loop-t.t + 1) (omega arith)

pub loop-t-smaller : goal.loop-t-smaller
loop-t-smaller c = omega (arith, below (goal.at.loop-t-smaller c).In-loop-t)

pub loop-t-preserved : goal.loop-t-preserved
loop-t-preserved c = omega (arith, below (goal.at.loop-t-preserved c).In-loop-t)
