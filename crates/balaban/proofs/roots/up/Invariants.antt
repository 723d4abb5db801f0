use Prim.Native.Nat.{◌-◌, ◌*◌, ◌≤◌}
use Rattle.balaban.specs.Balaban.{bound}
use Rattle.balaban.specs.Work.{unit}
use Rattle.balaban.proofs.roots.up.Given as goal

-- `roots::up` meets its contract: the square of the number stays at most q, so that the number stays at most 10 ^ 9. Assumes nothing.
abbrev pub invariant-loop-t : goal.invariant-loop-t
invariant-loop-t l = (l.t * l.t ≤ l.q) × (l.t ≤ unit) × (l.q ≤ bound 1)

abbrev pub decreases-loop-t : goal.decreases-loop-t
decreases-loop-t l = unit - l.t
