use native.Mathlib.Omega.{arith}
use Rattle.sheets.proofs.Puts.{head_and_fields, too_short}
use Rattle.sheets.proofs.put_sheet.Goals as goal

-- `sheets::put_sheet` meets its contract: the head, and then the fields, where there is room. Assumes nothing.
pub returns-then-out-bytes_of : goal.returns-then-out-bytes_of
returns-then-out-bytes_of c = let a = c.args in too_short a.sheet a.x a.out.now (omega (arith, c.if-out-bytes_of.true, c.bytes_of.ensures))

pub returns : goal.returns
returns c =
    let a = c.args in
    head_and_fields a.sheet a.x a.out.now _ _ c.sheet_kind-kind.result (omega (arith, c.if-out-bytes_of.false, c.bytes_of.ensures)) c.sheet_kind-kind.ensures c.put_head.ensures c.put_fields.ensures
