use mathlib.Core.Path.{◌≡◌}
use lib.ListN.{length}
use Rattle.summaries.specs.Ends.{Put}
use Rattle.summaries.proofs.ends.put_ends.Given as goal

-- `summaries::ends::put_ends` meets its contract. The loop's invariant: what is seen from x is put for the ends from e to f. Assumes nothing.
abbrev pub invariant-loop-f : goal.invariant-loop-f
invariant-loop-f l =
    (length l.rows ≡ length l.initial.rows) × (length l.counts ≡ length l.initial.counts) × Put l.book l.links l.count l.x l.e l.f l.initial.rows l.initial.counts l.rows l.counts
