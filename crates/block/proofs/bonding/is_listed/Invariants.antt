use Prim.Native.Nat.{◌-◌, ◌≤◌}
use mathlib.Core.Path.{◌≡◌}
use lib.ListN.{length, drop}
use Rattle.graph.specs.Graph.{any_joins}
use Rattle.block.specs.Block.{bonds_of}
use Rattle.block.proofs.bonding.is_listed.Given as goal

-- The loop's invariant: what is left of the bonds gives what all of them give.
abbrev pub invariant-loop-i : goal.invariant-loop-i
invariant-loop-i l = (l.i ≤ length l.bonds) × (any_joins (bonds_of (drop l.i l.bonds)) l.a l.b ≡ any_joins (bonds_of l.bonds) l.a l.b)

abbrev pub decreases-loop-i : goal.decreases-loop-i
decreases-loop-i l = length l.bonds - l.i
