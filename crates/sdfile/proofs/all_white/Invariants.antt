use Prim.Native.Nat.{◌-◌}
use mathlib.Core.Path.{◌≡◌}
use lib.ListN.{length, drop}
use Rattle.sdfile.specs.Sdf.{all_white}
use Rattle.sdfile.proofs.all_white.Given as goal

-- `sdfile::all_white` meets its contract. The loop's invariant: the bytes from i on are to be looked at.
abbrev pub invariant-loop-i : goal.invariant-loop-i
invariant-loop-i l = all_white (drop l.from l.d) ≡ all_white (drop l.i l.d)

abbrev pub decreases-loop-i : goal.decreases-loop-i
decreases-loop-i l = length l.d - l.i
