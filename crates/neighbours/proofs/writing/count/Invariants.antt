use Prim.Native.Nat.{◌+◌, ◌-◌, ◌≤◌}
use mathlib.Core.Path.{◌≡◌}
use lib.ListN.{length}
use Rattle.adjacency.specs.Written.{up_to, is_greater}
use Rattle.adjacency.specs.Work.{joined_in}
use Rattle.neighbours.proofs.writing.count.Given as goal

-- `count` meets its contract. The loop's invariant: k of the atoms before j are greater neighbours.
abbrev pub invariant-loop-j : goal.invariant-loop-j
invariant-loop-j l = (l.k ≡ length (up_to (l.j - 1) (is_greater (joined_in l.near) l.i))) × (l.j ≤ l.n + 1)
