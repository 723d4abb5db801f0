use Prim.Native.Nat.{◌-◌}
use mathlib.Core.Path.{◌≡◌}
use lib.ListN.{drop}
use Rattle.sdfile.specs.Sdf.{stands}
use Rattle.sdfile.proofs.stands.Given as goal

-- `sdfile::stands` meets its contract. The loop's invariant: the places from i on are to be looked at.
abbrev pub invariant-loop-i : goal.invariant-loop-i
invariant-loop-i l = stands l.b (drop l.from l.d) ≡ stands l.b (drop l.i l.d)
