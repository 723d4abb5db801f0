use Rattle.queues.specs.declared.Queue.{Queue}
use Rattle.queues.specs.Queues.{drop_told, table_dropped}
use Rattle.queue_calls.specs.TwoQueues.{queue_for}
use Rattle.queue_calls.proofs.QueueReplies.{queue_coded}
use Rattle.queue_calls.proofs.drop.Goals as goal

-- `queue_calls::drop` meets its contract. Assumes nothing.
pub returns : goal.returns
returns c = let w = let a = c.args in
    queue_coded (λ (q : Queue). drop_told a.table.now q a.number) (λ (q : Queue). table_dropped a.table.now q a.number)
    c.drop-told.result c.queue_for.result (queue_for a.queue) _ c.queue_for.ensures c.reply_code.ensures (c.drop-told.ensures.reply, c.drop-told.ensures.bytes) in record { reply = w.0; bytes = w.1 }
