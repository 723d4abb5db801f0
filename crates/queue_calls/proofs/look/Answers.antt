use mathlib.Core.Path.{◌∙◌, ap}
use Rattle.records.specs.declared.Sheet.TheVariants.{Six}
use Rattle.queues.specs.declared.Queue.{Queue}
use Rattle.queues.specs.Queues.{look_told}
use Rattle.queue_calls.specs.TwoQueues.{queue_for}
use Rattle.calls.proofs.Blocks.{lent_fields}
use Rattle.queue_calls.proofs.look.Goals as goal
use Rattle.reply.specs.Read.{as_result}

-- `queue_calls::look` meets its contract. Assumes nothing.
pub returns : goal.returns
returns c =
    let a = c.args in
    lent_fields Six _ (look_told a.table.now (queue_for a.queue) a.number) (c.look-answer.ensures ∙ ap (λ (q : Queue). as_result (look_told a.table.now q a.number)) c.queue_for.ensures) c.give_indices.ensures
