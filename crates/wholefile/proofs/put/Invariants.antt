use Prim.Native.Nat.{◌-◌, ◌≤◌}
use mathlib.Core.Path.{◌≡◌}
use lib.ListN.{length, take}
use lib.Seq.{sets}
use Rattle.wholefile.proofs.put.Given as goal

-- `wholefile::put` meets its contract. The loop's invariant: the first i numbers are put.
abbrev pub invariant-loop-i : goal.invariant-loop-i
invariant-loop-i l = (l.i ≤ length l.xs) × (length l.out ≡ length l.initial.out) × (l.out ≡ sets l.initial.out 0 (take l.i l.xs))
