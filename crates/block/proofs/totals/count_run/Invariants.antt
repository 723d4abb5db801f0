use Prim.Native.Nat.{◌≤◌}
use Rattle.block.specs.Tally.{run_at, CountsAdded}
use Rattle.block.proofs.totals.count_run.Given as goal

abbrev pub invariant-loop-j : goal.invariant-loop-j
invariant-loop-j l = (l.j ≤ l.k) × CountsAdded l.initial.counts (run_at l.half l.from) l.j l.counts
