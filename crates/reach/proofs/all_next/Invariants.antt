use Prim.Native.Nat.{◌≤◌}
use Rattle.reach.proofs.Meeting.{NextUpTo}
use Rattle.reach.proofs.all_next.Given as goal

abbrev pub invariant-loop-i : goal.invariant-loop-i
invariant-loop-i l = (l.i ≤ l.n) × NextUpTo l.n l.i l.near l.drawn
