use Prim.Native.Nat.{◌+◌, ◌-◌}
use Rattle.sets.proofs.Running.{Running}
use Rattle.sets.proofs.recursion.Given as goal

-- `sets::recursion` meets its contract. The loop's invariant: what the lists hold counts the sets of the whole tree. The measure is how many atoms were not looked at, and how
-- many bonds are left.
abbrev pub invariant-loop-left : goal.invariant-loop-left
invariant-loop-left l = Running l.n l.bonds l.root l.keys l.all l.free l.omitted l.chosen l.left l.i l.a

abbrev pub decreases-loop-left : goal.decreases-loop-left
decreases-loop-left l = l.n - l.i + l.left
