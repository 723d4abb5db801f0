use Prim.Native.Nat.{◌≤◌}
use Rattle.balaban.specs.Work.{unit}
use Rattle.balaban.proofs.roots.down.Given as goal

-- `roots::down` meets its contract: the number stays at most 10 ^ 9. Assumes nothing.
abbrev pub invariant-loop-t : goal.invariant-loop-t
invariant-loop-t l = l.t ≤ unit

abbrev pub decreases-loop-t : goal.decreases-loop-t
decreases-loop-t l = l.t
