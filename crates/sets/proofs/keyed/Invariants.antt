use Prim.Native.Nat.{◌≤◌}
use Rattle.sets.proofs.Keying.{Keying}
use Rattle.sets.proofs.keyed.Given as goal

-- `sets::keyed` meets its contract. The loop's invariant: the bonds from k on are still to be added.
abbrev pub invariant-loop-k : goal.invariant-loop-k
invariant-loop-k l = (l.k ≤ l.m) × Keying l.bonds l.root l.k l.keys
