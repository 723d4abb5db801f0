use Prim.Native.Nat.{◌+◌, ◌-◌}
use mathlib.Core.Path.{◌≡◌}
use Rattle.graph.specs.Graph.{Within}
use Rattle.summaries.specs.Ready.{joins_in, between}
use Rattle.summaries.proofs.joins.apart.Given as goal

-- `summaries::joins::apart` meets its contract. The loop's invariant: what was climbed and what is left make what was asked for. The measure is the
-- sum of the two parents' numbers. Assumes nothing.
abbrev pub invariant-loop-count : goal.invariant-loop-count
invariant-loop-count l = Within (l.count - 1) l.u × Within (l.count - 1) l.v × (l.d + between l.book l.links l.u l.v ≡ between l.book l.links l.x l.y)

abbrev pub decreases-loop-count : goal.decreases-loop-count
decreases-loop-count l = (joins_in l.links l.u).parent + (joins_in l.links l.v).parent
