use mathlib.Core.Path.{sym, ◌∙◌, ap}
use lib.ListN.{length}
use Rattle.std.specs.Prelude.{Err}
use Rattle.std.proofs.lemmas.Result.{err_from_is_err_and}
use Rattle.judging.specs.Judging.{said_sheet_written, sheet_out}
use Rattle.gathered.proofs.Answers.{short_table, told_fault, record_told}
use Rattle.gathered.proofs.compose.Goals as goal

-- `gathered::compose` meets its contract. Assumes nothing.
pub returns-then-table-lt-TABLE : goal.returns-then-table-lt-TABLE
returns-then-table-lt-TABLE c =
    let a = c.args in
    let e = short_table a.table.now a.queue a.sheet a.d.now (length a.out.now) c.if-table-lt-TABLE.true in
    record { reply = ap Err c.at.ensures ∙ sym (ap said_sheet_written e); bytes = sym (ap (sheet_out a.sheet _) e) }

pub returns-then-f-ne0 : goal.returns-then-f-ne0
returns-then-f-ne0 c =
    let a = c.args in
    let f = c.fault-f in
    let e = told_fault a.table.now a.queue a.sheet a.d.now (length a.out.now) c.if-table-lt-TABLE.false f.result f.ensures c.if-f-ne0.true in
    record { reply = c.refused.ensures ∙ sym (ap said_sheet_written e); bytes = sym (ap (sheet_out a.sheet _) e) }

pub returns-in_err-all : goal.returns-in_err-all
returns-in_err-all c =
    let f = c.fault-f in
    let a = c.args in
    let e = record_told a.table.now a.queue a.sheet a.d.now (length a.out.now) c.if-table-lt-TABLE.false f.result f.ensures _ c.if-f-ne0.false (sym c.in_err-all.was ∙ c.composed.ensures) in
    let p = err_from_is_err_and c.from_residual.result c.from_residual.ensures.1 in
    record { reply = p.1 ∙ ap Err p.2 ∙ sym (ap said_sheet_written e); bytes = sym (ap (sheet_out a.sheet _) e) }

pub returns : goal.returns
returns c =
    let f = c.fault-f in
    let a = c.args in
    let e = record_told a.table.now a.queue a.sheet a.d.now (length a.out.now) c.if-table-lt-TABLE.false f.result f.ensures _ c.if-f-ne0.false (sym c.in_ok-all.was ∙ c.composed.ensures) in
    record { reply = sym (ap said_sheet_written e); bytes = c.put_sheet.ensures ∙ sym (ap (sheet_out a.sheet _) e) }
