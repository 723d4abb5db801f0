use Rattle.half.proofs.Pairs.{put_some, put_out, put_none}
use Rattle.half.proofs.put.Goals as goal

pub returns-then-p-half : goal.returns-then-p-half
returns-then-p-half c = put_some _ _ _ c.place-p.ensures _ _ c.if-p-lt-PAIRS.true

pub returns-else-p-half : goal.returns-else-p-half
returns-else-p-half c = put_out _ _ _ c.place-p.ensures _ _ c.if-p-lt-PAIRS.true c.if-p-half.false

pub returns-else-p-lt-PAIRS : goal.returns-else-p-lt-PAIRS
returns-else-p-lt-PAIRS c = put_none _ _ _ c.place-p.ensures _ _ c.if-p-lt-PAIRS.false
