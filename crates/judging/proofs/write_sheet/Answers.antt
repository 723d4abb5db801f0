use mathlib.Core.Path.{sym, ◌∙◌, ap}
use native.Mathlib.Omega.{arith}
use lib.ListN.{length}
use Rattle.std.specs.Prelude.{Err}
use Rattle.reply.specs.Read.{refused, read}
use Rattle.judging.specs.Judging.{said_sheet_written, sheet_out}
use Rattle.judging.proofs.Judging.{write_long, write_short, write_told}
use Rattle.judging.proofs.write_sheet.Goals as goal

-- `judging::write_sheet` meets its contract. Assumes nothing.
pub returns-then-d-gt-LONGEST : goal.returns-then-d-gt-LONGEST
returns-then-d-gt-LONGEST c =
    let a = c.args in
    let e = write_long a.sheet a.d.now (length a.out.now) c.if-d-gt-LONGEST.true in
    record { reply = ap Err c.at.ensures ∙ sym (ap said_sheet_written e); bytes = sym (ap (sheet_out a.sheet _) e) }

pub returns-then-out-bytes : goal.returns-then-out-bytes
returns-then-out-bytes c =
    let a = c.args in
    let e = write_short a.sheet a.d.now (length a.out.now) c.if-d-gt-LONGEST.false (omega (arith, c.if-out-bytes.true, c.bytes_of-bytes.ensures)) in
    record { reply = ap Err c.at-then-out-bytes.ensures ∙ sym (ap said_sheet_written e); bytes = sym (ap (sheet_out a.sheet _) e) }

pub returns-in-Err : goal.returns-in-Err
returns-in-Err c =
    let a = c.args in
    let e = write_told a.sheet a.d.now (length a.out.now) (refused _) c.if-d-gt-LONGEST.false (omega (arith, c.if-out-bytes.false, c.bytes_of-bytes.ensures)) (sym c.in-Err.is ∙ c.compose.ensures) in
    record { reply = sym (ap said_sheet_written e); bytes = sym (ap (sheet_out a.sheet _) e) }

pub returns-in-Ok : goal.returns-in-Ok
returns-in-Ok c =
    let a = c.args in
    let e = write_told a.sheet a.d.now (length a.out.now) (read _) c.if-d-gt-LONGEST.false (omega (arith, c.if-out-bytes.false, c.bytes_of-bytes.ensures)) (sym c.in-Ok.is ∙ c.compose.ensures) in
    record { reply = sym (ap said_sheet_written e); bytes = c.put_sheet.ensures ∙ sym (ap (sheet_out a.sheet _) e) }
