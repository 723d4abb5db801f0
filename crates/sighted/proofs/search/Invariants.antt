use Prim.Native.Nat.{◌-◌}
use Rattle.sighted.proofs.Running.{Running}
use Rattle.sighted.specs.Sighted.{sets_in}
use Rattle.sighted.proofs.search.Given as goal

abbrev pub invariant-loop-level : goal.invariant-loop-level
invariant-loop-level l = Running (sets_in l.s) l.n l.a l.row l.tally l.level l.rest l.d

abbrev pub decreases-loop-level : goal.decreases-loop-level
decreases-loop-level l = l.n - l.d
