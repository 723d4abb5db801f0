use Prim.Native.Nat.{◌≤◌}
use Rattle.szeged.specs.Work.{CloserCounted}
use Rattle.szeged.proofs.nearer.Given as goal

-- `nearer` meets its contract: the entries passed are counted.
abbrev pub invariant-loop-x : goal.invariant-loop-x
invariant-loop-x l = (l.x ≤ l.n) × CloserCounted l.x l.one l.two l.count
