use lib.ListN.{get_or}
use Rattle.arms.proofs.Keeping.{FilledTo}
use Rattle.catalogue.specs.Library.{most_sites}
use Rattle.catalogue.specs.Said.{no_site}
use Rattle.stock.proofs.atoms_of.Given as goal

-- `stock::atoms_of` meets its contract. The loop's invariant: the first k atoms are the sites'. Assumes nothing.
abbrev pub invariant-loop-k : goal.invariant-loop-k
invariant-loop-k l = FilledTo 0 (λ j. (get_or l.sites j no_site).atom) most_sites l.atoms l.k
