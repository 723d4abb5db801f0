use mathlib.Core.List.{List}
use mathlib.Core.Path.{sym, ◌∙◌, ap}
use native.Mathlib.Omega.{arith}
use Prim.Native.Nat.{ℕ}
use Rattle.queues.specs.Shelf.{look_reply}
use Rattle.queues.specs.Table.{shelf}
use Rattle.summary.specs.Layout.{summary_bytes, stored_fields}
use Rattle.std.specs.Prelude.{Err}
use Rattle.queues.proofs.Answers.{short_reply, reply_on}
use Rattle.queues.proofs.look.Goals as goal
use Rattle.reply.specs.Read.{as_result}

-- `look` meets its contract.
pub returns-then-table-lt-TABLE : goal.returns-then-table-lt-TABLE
returns-then-table-lt-TABLE c = let a = c.args in ap Err c.at.ensures ∙ sym (ap as_result (short_reply a.table.now (look_reply summary_bytes (shelf summary_bytes a.queue a.table.now) stored_fields a.number) c.if-table-lt-TABLE.true))

pub returns : goal.returns
returns c =
    let a = c.args in
    let s = c.start_of-start in
    let l = c.if-table-lt-TABLE.false in
    reply_on a.queue a.table.now s.result s.ensures.0 (omega (arith, l)) as_result (λ (t : List ℕ). look_reply summary_bytes t stored_fields a.number) c.look_in.result c.look_in.ensures
