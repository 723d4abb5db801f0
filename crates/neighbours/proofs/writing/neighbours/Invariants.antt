use Prim.Native.Nat.{◌+◌, ◌-◌, ◌≤◌}
use Rattle.text.specs.Put.{Puts}
use Rattle.adjacency.specs.Written.{up_to, is_greater, listed}
use Rattle.adjacency.specs.Work.{joined_in}
use Rattle.neighbours.proofs.writing.neighbours.Given as goal

-- `neighbours` meets its contract. The loop's invariant: the greater neighbours among the atoms before j are put.
abbrev pub invariant-loop-j : goal.invariant-loop-j
invariant-loop-j l = Puts l.initial.out l.from (listed (up_to (l.j - 1) (is_greater (joined_in l.near) l.i))) l.out l.at × (l.j ≤ l.n + 1)
