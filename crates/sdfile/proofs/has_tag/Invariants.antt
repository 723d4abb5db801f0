use Prim.Native.Nat.{◌-◌}
use mathlib.Core.Path.{◌≡◌}
use lib.ListN.{drop}
use Rattle.sdfile.specs.Sdf.{tagged, has_name}
use Rattle.sdfile.proofs.has_tag.Given as goal

-- `sdfile::has_tag` meets its contract. The loop's invariant: the places from i on are to be looked at.
abbrev pub invariant-loop-i : goal.invariant-loop-i
invariant-loop-i l = has_name (tagged l.name) l.d ≡ has_name (tagged l.name) (drop l.i l.d)
