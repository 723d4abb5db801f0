use Prim.Native.Nat.{◌≤◌}
use Rattle.block.proofs.Sketching.{Sizing}
use Rattle.block.proofs.bonding.is_plain.Given as goal

abbrev pub invariant-loop-i : goal.invariant-loop-i
invariant-loop-i l = (l.i ≤ l.n) × Sizing l.near l.i l.sum l.high
