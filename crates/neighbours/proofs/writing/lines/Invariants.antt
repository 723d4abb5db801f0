use Prim.Native.Nat.{◌+◌, ◌-◌, ◌≤◌}
use Rattle.text.specs.Put.{Puts}
use Rattle.adjacency.specs.Written.{lines}
use Rattle.adjacency.specs.Work.{joined_in}
use Rattle.neighbours.proofs.writing.lines.Given as goal

-- `lines` meets its contract. The loop's invariant: the lines of the atoms before i are put.
abbrev pub invariant-loop-i : goal.invariant-loop-i
invariant-loop-i l = Puts l.initial.out l.from (lines (joined_in l.near) l.n (l.i - 1)) l.out l.at × (l.i ≤ l.n + 1)
