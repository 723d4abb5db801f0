use Prim.Native.Nat.{◌≤◌}
use Rattle.shares.proofs.Layering.{Layered}
use Rattle.shares.proofs.sweeps.by_level.Given as goal

-- `by_level` meets its contract: the atoms passed stand in their levels.
abbrev pub invariant-loop-j : goal.invariant-loop-j
invariant-loop-j l = (l.j ≤ l.n) × Layered l.j l.row l.sets
