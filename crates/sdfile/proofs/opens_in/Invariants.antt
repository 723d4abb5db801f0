use Prim.Native.Nat.{◌+◌, ◌-◌, ◌≤◌}
use mathlib.Core.Path.{◌≡◌}
use lib.ListN.{drop}
use Rattle.sdfile.specs.Sdf.{opens_in}
use Rattle.sdfile.proofs.opens_in.Given as goal

-- `sdfile::opens_in` meets its contract. The loop's invariant: what is counted so far, and what is left to count, are all.
abbrev pub invariant-loop-i : goal.invariant-loop-i
invariant-loop-i l = (l.k + opens_in (drop l.i l.name) ≡ opens_in l.name) × (l.k ≤ l.i)
