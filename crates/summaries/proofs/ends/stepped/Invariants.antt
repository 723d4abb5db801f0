use mathlib.Core.Path.{◌≡◌}
use lib.ListN.{length}
use Rattle.assembly.specs.Placements.{most_placements}
use Rattle.summaries.specs.Ends.{Stepped}
use Rattle.summaries.proofs.ends.stepped.Given as goal

-- `summaries::ends::stepped` meets its contract. The loop's invariant: the row is filled up to index z. Assumes nothing.
abbrev pub invariant-loop-z : goal.invariant-loop-z
invariant-loop-z l = (length l.row ≡ most_placements) × Stepped l.links l.z l.from l.home l.initial.row l.row
