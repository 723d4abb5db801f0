use Prim.Native.Nat.{◌≤◌}
use Rattle.reach.specs.Reach.{Added}
use Rattle.reach.proofs.count.Given as goal

abbrev pub invariant-loop-i : goal.invariant-loop-i
invariant-loop-i l = (l.i ≤ l.k) × Added l.i l.sets l.initial.reached l.reached
