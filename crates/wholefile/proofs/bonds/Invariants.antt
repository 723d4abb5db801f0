use Prim.Native.Nat.{◌-◌, ◌≤◌}
use Rattle.block.proofs.Reading.{Reads}
use Rattle.wholefile.proofs.bonds.Given as goal

-- `wholefile::bonds` meets its contract. The loop's invariant: the first k bonds have no fault.
abbrev pub invariant-loop-k : goal.invariant-loop-k
invariant-loop-k l = (l.k ≤ l.m) × Reads l.n l.xs l.k
