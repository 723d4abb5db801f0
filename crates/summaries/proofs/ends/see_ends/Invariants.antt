use mathlib.Core.Path.{◌≡◌}
use lib.ListN.{length}
use Rattle.summaries.specs.Ends.{Known}
use Rattle.summaries.proofs.ends.see_ends.Given as goal

-- `summaries::ends::see_ends` meets its contract. The loop's invariant: the ends before e are stored, and those that count an atom. Assumes nothing.
abbrev pub invariant-loop-e : goal.invariant-loop-e
invariant-loop-e l =
    (length l.rows ≡ length l.initial.rows) × (length l.counts ≡ length l.initial.counts) × Known l.book l.links l.count l.rows l.counts l.e
