use lib.ListN.{length}
use Rattle.queues.specs.declared.Queue.{Queue}
use Rattle.records.specs.declared.Sheet.{Sheet}
use Rattle.gathered.specs.Gathered.{sheet_told}
use Rattle.calls.specs.Blocks.{sheet_for}
use Rattle.queue_calls.specs.TwoQueues.{queue_for}
use Rattle.queue_calls.proofs.QueueReplies.{sheet_coded}
use Rattle.queue_calls.proofs.compose.Goals as goal

-- `queue_calls::compose` meets its contract. Assumes nothing.
pub returns : goal.returns
returns c = let w = let a = c.args in
    sheet_coded (λ (y : Queue) (z : Sheet). sheet_told a.table.now y z a.assembly.now (length a.out.now)) a.out.now
    c.compose-written.result c.queue_for.result (queue_for a.queue) c.sheet_for.result (sheet_for a.kind) _
    c.queue_for.ensures c.sheet_for.ensures c.written_code.ensures (c.compose-written.ensures.reply, c.compose-written.ensures.bytes) in record { reply = w.0; bytes = w.1 }
