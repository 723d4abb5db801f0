use Prim.Native.Nat.{◌-◌, ◌≤◌}
use Rattle.molfile.specs.Work.{Weighed}
use Rattle.molfile.proofs.dropping.weigh.Given as goal

-- `weigh` meets its contract. The loop's invariant: the weights are those by the first k bonds.
abbrev pub invariant-loop-k : goal.invariant-loop-k
invariant-loop-k l = (l.k ≤ l.m) × Weighed l.marks l.ones l.twos l.k l.weights
