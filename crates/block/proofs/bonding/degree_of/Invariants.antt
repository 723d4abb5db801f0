use Prim.Native.Nat.{◌+◌, ◌-◌, ◌≤◌}
use mathlib.Core.Path.{◌≡◌}
use lib.ListN.{length, drop}
use Rattle.graph.specs.Graph.{degree}
use Rattle.block.specs.Block.{bonds_of}
use Rattle.block.proofs.bonding.degree_of.Given as goal

-- The loop's invariant: the total and the ends among the bytes that are left are all ends.
abbrev pub invariant-loop-i : goal.invariant-loop-i
invariant-loop-i l = (degree (bonds_of l.bonds) l.a ≡ l.total + degree (bonds_of (drop l.i l.bonds)) l.a) × (l.total ≤ l.i) × (l.i ≤ length l.bonds)

abbrev pub decreases-loop-i : goal.decreases-loop-i
decreases-loop-i l = length l.bonds - l.i
