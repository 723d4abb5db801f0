use mathlib.Core.Path.{◌≡◌, sym, ◌∙◌, ap, ap₂}
use lib.ListN.{length}
use Rattle.records.specs.Records.{sheet_at}
use Rattle.sheets.specs.Sheets.{all_widths, field_count, first_wrong}
use Rattle.sheets.proofs.Puts.{there, lent, length_all, length_fields, fields_taken, claims_taken}
use Rattle.sheets.proofs.first_wrong.Goals as goal
use Rattle.sheets.proofs.first_wrong.Goals.{After-claimed-ys, After-field_count-n, After-fields_of-xs}

-- `sheets::first_wrong` meets its contract: of all fields, those of the claimed kind are compared. Assumes nothing.
count : (c : After-field_count-n) → let a = c.args in c.field_count-n.result ≡ field_count (sheet_at a.d.now a.sheet)
count c = c.field_count-n.ensures ∙ ap field_count c.sheet_at.ensures

all-xs : (c : After-fields_of-xs) → length c.fields_of-xs.result ≡ length all_widths
all-xs c = ap length c.fields_of-xs.ensures ∙ length_all _

all-ys : (c : After-claimed-ys) → length c.claimed-ys.result ≡ length all_widths
all-ys c = ap length c.claimed-ys.ensures ∙ length_fields all_widths _ _

pub slice_bounds-xs-end : goal.slice_bounds-xs-end
slice_bounds-xs-end c = let a = c.args in let s = sheet_at a.d.now a.sheet in there s _ c.fields_of-xs.result (count (goal.at.slice_bounds-xs-end c).After-field_count-n) (all-xs (goal.at.slice_bounds-xs-end c).After-fields_of-xs)

pub slice_bounds-first_apart-end : goal.slice_bounds-first_apart-end
slice_bounds-first_apart-end c = let a = c.args in let s = sheet_at a.d.now a.sheet in lent s _ _ (count (goal.at.slice_bounds-first_apart-end c).After-field_count-n) (all-xs (goal.at.slice_bounds-first_apart-end c).After-fields_of-xs)

pub slice_bounds-ys-end : goal.slice_bounds-ys-end
slice_bounds-ys-end c = let a = c.args in let s = sheet_at a.d.now a.sheet in there s _ c.claimed-ys.result (count (goal.at.slice_bounds-ys-end c).After-field_count-n) (all-ys (goal.at.slice_bounds-ys-end c).After-claimed-ys)

pub slice_bounds-first_apart-end-2 : goal.slice_bounds-first_apart-end-2
slice_bounds-first_apart-end-2 c = let a = c.args in let s = sheet_at a.d.now a.sheet in lent s _ _ (count (goal.at.slice_bounds-first_apart-end-2 c).After-field_count-n) (all-ys (goal.at.slice_bounds-first_apart-end-2 c).After-claimed-ys)

pub first_apart-requires : goal.first_apart-requires
first_apart-requires c = let a = c.args in let s = sheet_at a.d.now a.sheet in sym (lent s _ _ (count (goal.at.first_apart-requires c).After-field_count-n) (all-xs (goal.at.first_apart-requires c).After-fields_of-xs)) ∙ lent s _ _ (count (goal.at.first_apart-requires c).After-field_count-n) (all-ys (goal.at.first_apart-requires c).After-claimed-ys)

pub returns : goal.returns
returns c =
    let a = c.args in
    let n = count (goal.at.returns c).After-field_count-n in
    c.first_apart.ensures ∙ ap₂ (first_wrong 1) (fields_taken (sheet_at a.d.now a.sheet) a.x _ _ n c.fields_of-xs.ensures) (claims_taken a.d.now a.sheet _ _ n c.claimed-ys.ensures)
