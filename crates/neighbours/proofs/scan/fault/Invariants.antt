use Prim.Native.Nat.{◌-◌}
use lib.ListN.{length}
use Rattle.adjacency.specs.Work.{Looking}
use Rattle.neighbours.proofs.scan.fault.Given as goal

-- `fault` meets its contract. The loop's invariant: the bytes before i are good, and the digits right before it are not too large.
abbrev pub invariant-loop-i : goal.invariant-loop-i
invariant-loop-i l = Looking l.text l.value l.start l.i

abbrev pub decreases-loop-i : goal.decreases-loop-i
decreases-loop-i l = length l.text - l.i
