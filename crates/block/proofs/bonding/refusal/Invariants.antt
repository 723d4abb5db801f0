use Prim.Native.Nat.{◌≤◌}
use Rattle.block.proofs.Reading.{Reads}
use Rattle.block.proofs.bonding.refusal.Given as goal

abbrev pub invariant-loop-k : goal.invariant-loop-k
invariant-loop-k l = (l.k ≤ l.m) × Reads l.n l.bonds l.k
