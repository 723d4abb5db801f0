use lib.ListN.{get_or}
use Rattle.arms.specs.Arms.{no_arm}
use Rattle.arms.proofs.Keeping.{FilledTo}
use Rattle.catalogue.specs.Library.{most_sites}
use Rattle.stock.specs.Stock.{arm_among}
use Rattle.stock.proofs.arms_among.Given as goal

-- `stock::arms_among` meets its contract. The loop's invariant: the first k arms are found. Assumes nothing.
abbrev pub invariant-loop-k : goal.invariant-loop-k
invariant-loop-k l = FilledTo no_arm (λ j. arm_among l.all j (get_or l.digits j 0)) most_sites l.arms l.k
