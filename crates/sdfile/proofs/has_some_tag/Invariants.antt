use Prim.Native.Nat.{◌-◌}
use mathlib.Core.Path.{◌≡◌}
use lib.ListN.{drop}
use Rattle.sdfile.specs.Sdf.{has_tag}
use Rattle.sdfile.proofs.has_some_tag.Given as goal

-- `sdfile::has_some_tag` meets its contract. The loop's invariant: the places from i on are to be looked at.
abbrev pub invariant-loop-i : goal.invariant-loop-i
invariant-loop-i l = has_tag l.d ≡ has_tag (drop l.i l.d)
