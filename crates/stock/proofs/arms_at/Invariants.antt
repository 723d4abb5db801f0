use lib.ListN.{take, get_or}
use Rattle.arms.specs.Arms.{no_arm}
use Rattle.arms.proofs.Keeping.{FilledTo}
use Rattle.catalogue.specs.Library.{most_sites}
use Rattle.catalogue.specs.Said.{no_site}
use Rattle.stock.specs.Stock.{Holds, arm_at}
use Rattle.stock.proofs.arms_at.Given as goal

-- `stock::arms_at` meets its contract. The loop's invariant: the first k arms are kept, and the place holds what it says. Assumes nothing.
abbrev pub invariant-loop-k : goal.invariant-loop-k
invariant-loop-k l =
    FilledTo no_arm (λ j. arm_at l.d (take l.count l.blocks) l.xs (get_or l.sites j no_site) (get_or l.digits j 0)) most_sites l.arms l.k × Holds l.d (take l.count l.blocks) l.held l.place
