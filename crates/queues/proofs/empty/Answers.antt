use mathlib.Core.Path.{sym, ◌∙◌, ap}
use native.Mathlib.Omega.{arith}
use Rattle.std.specs.Prelude.{Err}
use Rattle.queues.proofs.Answers.{short_table, long_table, short_empty, long_empty}
use Rattle.queues.proofs.empty.Goals as goal
use Rattle.reply.specs.Read.{as_result}

-- `empty` meets its contract.
pub returns-then-table-lt-TABLE : goal.returns-then-table-lt-TABLE
returns-then-table-lt-TABLE c =
    let a = c.args in
    let l = c.if-table-lt-TABLE.true in
    record { reply = ap Err c.at.ensures ∙ sym (ap as_result (short_table a.table.now l)); bytes = short_empty a.table.now l }

pub returns : goal.returns
returns c =
    let a = c.args in
    let l = c.if-table-lt-TABLE.false in
    record { reply = sym (ap as_result (long_table a.table.now (omega (arith, l)))); bytes = c.clear.ensures ∙ sym (long_empty a.table.now (omega (arith, l))) }
