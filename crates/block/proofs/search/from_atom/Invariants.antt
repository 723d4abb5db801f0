use Prim.Native.Nat.{◌+◌, ◌-◌}
use mathlib.Core.Path.{◌≡◌}
use Rattle.graph.specs.Graph.{Graph}
use Rattle.block.specs.Found.{SearchTask}
use Rattle.block.proofs.Meeting.{Running, Over}
use Rattle.block.proofs.search.from_atom.Given as goal

abbrev pub invariant-loop-level : goal.invariant-loop-level
invariant-loop-level l = (g : Graph) → SearchTask g l.near l.n l.i → Running g l.near l.i l.row l.rest l.level l.next l.d × (l.level ≡ 0 → Over g l.near l.i l.next l.d)

abbrev pub decreases-loop-level : goal.decreases-loop-level
decreases-loop-level l = l.rest + l.level
