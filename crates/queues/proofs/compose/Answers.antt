use mathlib.Core.List.{List}
use mathlib.Core.Path.{sym, ◌∙◌, ap}
use native.Mathlib.Omega.{arith}
use Prim.Native.Nat.{ℕ}
use Rattle.summaries.specs.Composing.{composed_reply}
use Rattle.queues.specs.Table.{shelf}
use Rattle.summary.specs.Layout.{summary_bytes}
use Rattle.std.specs.Prelude.{Err}
use Rattle.queues.proofs.Answers.{short_reply, reply_on}
use Rattle.queues.proofs.compose.Goals as goal
use Rattle.reply.specs.Read.{as_result}

-- `compose` meets its contract.
pub returns-then-table-lt-TABLE : goal.returns-then-table-lt-TABLE
returns-then-table-lt-TABLE c = let a = c.args in ap Err c.at.ensures ∙ sym (ap as_result (short_reply a.table.now (composed_reply (shelf summary_bytes a.queue a.table.now) a.xs.now) c.if-table-lt-TABLE.true))

pub returns : goal.returns
returns c =
    let a = c.args in
    let s = c.start_of-start in
    let l = c.if-table-lt-TABLE.false in
    reply_on a.queue a.table.now s.result s.ensures.0 (omega (arith, l)) as_result (λ (t : List ℕ). composed_reply t a.xs.now) c.compose.result c.compose.ensures
