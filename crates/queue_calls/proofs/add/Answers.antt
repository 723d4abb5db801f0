use Rattle.queues.specs.declared.Queue.{Queue}
use Rattle.queues.specs.Queues.{add_told, table_added}
use Rattle.queue_calls.specs.TwoQueues.{queue_for}
use Rattle.queue_calls.proofs.QueueReplies.{queue_coded}
use Rattle.queue_calls.proofs.add.Goals as goal

-- `queue_calls::add` meets its contract. Assumes nothing.
pub returns : goal.returns
returns c = let w = let a = c.args in
    queue_coded (λ (q : Queue). add_told a.table.now q a.number a.atoms a.bonds.now) (λ (q : Queue). table_added a.table.now q a.number a.atoms a.bonds.now)
    c.add-told.result c.queue_for.result (queue_for a.queue) _ c.queue_for.ensures c.reply_code.ensures (c.add-told.ensures.reply, c.add-told.ensures.bytes) in record { reply = w.0; bytes = w.1 }
