use mathlib.Core.Path.{◌∙◌}
use Rattle.summary.specs.Layout.{summary_bytes}
use Rattle.queues.specs.Table.{table_reply}
use Rattle.calls.proofs.Laws.{reply_coded}
use Rattle.queue_calls.proofs.empty.Goals as goal

-- `queue_calls::empty` meets its contract. Assumes nothing.
pub returns : goal.returns
returns c =
    let a = c.args in
    record { reply = c.reply_code.ensures ∙ reply_coded c.empty-told.result (table_reply summary_bytes a.table.now) c.empty-told.ensures.reply; bytes = c.empty-told.ensures.bytes }
