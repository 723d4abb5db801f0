use Prim.Native.Nat.{◌+◌, ◌*◌, ◌-◌, ◌≤◌}
use mathlib.Core.Path.{◌≡◌}
use lib.ListN.{length, drop}
use Rattle.block.specs.Block.{bonds_of, graph_of}
use Rattle.matched.specs.Matched.{first_bond}
use Rattle.matched.specs.Work.{is_amiss}
use Rattle.matched.proofs.first_amiss.Given as goal

-- `matched::first_amiss` meets its contract. The loop's invariant: what is left of the bonds gives what all of them give. Assumes nothing.
abbrev pub invariant-loop-i : goal.invariant-loop-i
invariant-loop-i l = (l.i ≤ length l.list) × (2 * l.at ≡ 2 * l.place + l.i) × (first_bond l.at (is_amiss l.listed (graph_of l.n l.bonds) (graph_of l.n l.whole) l.to) (bonds_of (drop l.i l.list)) ≡ first_bond l.place (is_amiss l.listed (graph_of l.n l.bonds) (graph_of l.n l.whole) l.to) (bonds_of l.list))

abbrev pub decreases-loop-i : goal.decreases-loop-i
decreases-loop-i l = length l.list - l.i
