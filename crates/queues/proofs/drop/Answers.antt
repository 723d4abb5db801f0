use Prim.Native.Nat.{ℕ}
use mathlib.Core.List.{List}
use Rattle.queues.specs.Shelf.{drop_reply, dropped}
use mathlib.Core.Path.{sym, ◌∙◌, ap}
use native.Mathlib.Omega.{arith}
use Rattle.queues.specs.Table.{shelf}
use Rattle.summary.specs.Layout.{summary_bytes}
use Rattle.std.specs.Prelude.{Err}
use Rattle.queues.proofs.Answers.{short_reply, short_after, reply_on, after_on}
use Rattle.queues.proofs.drop.Goals as goal
use Rattle.reply.specs.Read.{as_result}

-- `drop` meets its contract.
pub returns-then-table-lt-TABLE : goal.returns-then-table-lt-TABLE
returns-then-table-lt-TABLE c =
    let a = c.args in
    let l = c.if-table-lt-TABLE.true in
    record { reply = ap Err c.at.ensures ∙ sym (ap as_result (short_reply a.table.now (drop_reply summary_bytes (shelf summary_bytes a.queue a.table.now) a.number) l)); bytes = short_after a.table.now a.queue (dropped summary_bytes (shelf summary_bytes a.queue a.table.now) a.number) l }

pub returns : goal.returns
returns c =
    let a = c.args in
    let s = c.start_of-start in
    let l = c.if-table-lt-TABLE.false in
    let r = c.drop_from in record { reply = reply_on a.queue a.table.now s.result s.ensures.0 (omega (arith, l)) as_result (λ (t : List ℕ). drop_reply summary_bytes t a.number) r.result r.ensures.reply; bytes = after_on a.queue a.table.now s.result s.ensures.0 (omega (arith, l)) (λ (t : List ℕ). dropped summary_bytes t a.number) r.new.s r.ensures.bytes }
