use lib.ListN.{get_or}
use Rattle.arms.specs.Arms.{most_arms, no_port, port_in}
use Rattle.arms.proofs.Keeping.{FilledTo}
use Rattle.arms.proofs.core_in.Given as goal

-- `arms::core_in` meets its contract. The loop's invariant: the first k ends are seen. Assumes nothing.
abbrev pub invariant-loop-k : goal.invariant-loop-k
invariant-loop-k l = FilledTo no_port (λ j. port_in l.s l.atoms (get_or l.atoms j 0)) most_arms l.ends l.k
