use Prim.Native.Nat.{◌+◌, ◌≤◌}
use mathlib.Core.Path.{◌≡◌}
use Rattle.summaries.specs.Ends.{Nowhere}
use Rattle.summaries.proofs.ends.again.Given as goal

-- `summaries::ends::again` meets its contract. The loop's invariant: where none was counted, none of the ends from e to g is x. Assumes nothing.
abbrev pub invariant-loop-g : goal.invariant-loop-g
invariant-loop-g l = (l.total + l.e ≤ l.g) × (l.total ≡ 0 → Nowhere l.links l.x l.e l.g)
