use Rattle.half.proofs.Pairs.{get_some, get_none}
use Rattle.half.proofs.get.Goals as goal

pub returns-then-p-lt-PAIRS : goal.returns-then-p-lt-PAIRS
returns-then-p-lt-PAIRS c = get_some _ _ _ c.place-p.ensures _ c.if-p-lt-PAIRS.true

pub returns-else-p-lt-PAIRS : goal.returns-else-p-lt-PAIRS
returns-else-p-lt-PAIRS c = get_none _ _ _ c.place-p.ensures _ c.if-p-lt-PAIRS.false
