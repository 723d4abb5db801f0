use lib.ListN.{get_or}
use Rattle.sighted.specs.Sighted.{steps_in}
use Rattle.arms.specs.Arms.{most_arms}
use Rattle.arms.proofs.Keeping.{FilledTo}
use Rattle.arms.proofs.near_in.Given as goal

-- `arms::near_in` meets its contract. The loop's invariant: the first j numbers are there. Assumes nothing.
abbrev pub invariant-loop-j : goal.invariant-loop-j
invariant-loop-j l = FilledTo 0 (λ i. steps_in l.row (get_or l.atoms i 0)) most_arms l.near l.j
