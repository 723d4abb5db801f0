use Prim.Native.Nat.{ℕ}
use mathlib.Core.List.{List}
use Rattle.queues.specs.Shelf.{add_reply, added}
use mathlib.Core.Path.{sym, ◌∙◌, ap}
use native.Mathlib.Omega.{arith}
use Rattle.block.specs.Block.{block_reply}
use Rattle.queues.specs.Table.{shelf}
use Rattle.summary.specs.Layout.{summary_bytes}
use Rattle.queues.specs.Queues.{stored_block}
use Rattle.std.specs.Prelude.{Err}
use Rattle.queues.proofs.Answers.{short_reply, short_after, reply_on, after_on}
use Rattle.queues.proofs.add.Goals as goal
use Rattle.reply.specs.Read.{as_result}

-- `add` meets its contract.
pub returns-then-table-lt-TABLE : goal.returns-then-table-lt-TABLE
returns-then-table-lt-TABLE c =
    let a = c.args in
    let l = c.if-table-lt-TABLE.true in
    record { reply = ap Err c.at.ensures ∙ sym (ap as_result (short_reply a.table.now (add_reply summary_bytes (shelf summary_bytes a.queue a.table.now) a.number (block_reply a.n a.bonds.now)) l)); bytes = short_after a.table.now a.queue (added summary_bytes (shelf summary_bytes a.queue a.table.now) a.number (block_reply a.n a.bonds.now) (stored_block a.number a.n a.bonds.now)) l }

pub returns : goal.returns
returns c =
    let a = c.args in
    let s = c.start_of-start in
    let l = c.if-table-lt-TABLE.false in
    let r = c.add_to in record { reply = reply_on a.queue a.table.now s.result s.ensures.0 (omega (arith, l)) as_result (λ (t : List ℕ). add_reply summary_bytes t a.number (block_reply a.n a.bonds.now)) r.result r.ensures.reply; bytes = after_on a.queue a.table.now s.result s.ensures.0 (omega (arith, l)) (λ (t : List ℕ). added summary_bytes t a.number (block_reply a.n a.bonds.now) (stored_block a.number a.n a.bonds.now)) r.new.s r.ensures.bytes }
