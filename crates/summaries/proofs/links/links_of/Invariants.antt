use Rattle.summaries.specs.Ready.{LinkedUpTo}
use Rattle.summaries.proofs.links.links_of.Given as goal

-- `summaries::links::links_of` meets its contract. The loop's invariant: the first k placements stand in the table. Assumes nothing.
abbrev pub invariant-loop-k : goal.invariant-loop-k
invariant-loop-k l = LinkedUpTo l.xs l.links l.k
