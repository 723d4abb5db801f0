use Rattle.queue_calls.proofs.QueueReplies.{queue_day, queue_night}
use Rattle.queue_calls.proofs.queue_for.Goals as goal

-- `queue_calls::queue_for` meets its contract. Assumes nothing.
pub returns-then-which-eq0 : goal.returns-then-which-eq0
returns-then-which-eq0 c = queue_day c.args.which c.if-which-eq0.true

pub returns : goal.returns
returns c = queue_night c.args.which c.if-which-eq0.false
