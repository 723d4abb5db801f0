use Prim.Native.Nat.{◌≤◌}
use Rattle.block.proofs.Sketching.{Sketching}
use Rattle.block.proofs.bonding.sketched.Given as goal

abbrev pub invariant-loop-k : goal.invariant-loop-k
invariant-loop-k l = (l.k ≤ l.m) × Sketching l.n l.bonds l.k l.reached l.near
