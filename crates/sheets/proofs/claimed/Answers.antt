use Prim.Native.Nat.{◌+◌}
use mathlib.Core.List.{List}
use mathlib.Core.Path.{refl, sym, ◌∙◌, ap}
use native.Mathlib.Omega.{arith}
use Prim.Native.Nat.{ℕ}
use Rattle.sheets.specs.Sheets.{all_widths, fields_at}
use Rattle.sheets.specs.Along.{widths_total, Narrow}
use Rattle.sheets.proofs.Puts.{fields_past}
use Rattle.sheets.proofs.claimed.Goals as goal

-- `sheets::claimed` meets its contract. Assumes nothing.
-- src/lib.rt:74:9
pub returns-then-d-sheet : goal.returns-then-d-sheet
returns-then-d-sheet c = let a = c.args in sym (fields_past all_widths a.d.now (a.sheet + 4) (omega (arith, c.if-d-sheet.true)))

-- src/lib.rt:76:13
-- src/lib.rt:77:20
-- src/lib.rt:77:34
-- src/lib.rt:77:38
-- src/lib.rt:77:5
pub read_fields-requires : goal.read_fields-requires
unfolding widths_total Narrow
read_fields-requires c = rw c.widths-w.ensures (refl, (omega arith, (omega arith, (omega arith, (omega arith, (omega arith, (omega arith, tt)))))), omega arith)

-- src/lib.rt:69:1
pub returns : goal.returns
returns c = let a = c.args in c.read_fields.ensures ∙ ap (λ (ws : List ℕ). fields_at ws a.d.now (a.sheet + 4)) c.widths-w.ensures
