use Prim.Native.Nat.{ℕ}
use mathlib.Core.List.{List}
use mathlib.Core.Path.{◌≡◌, sym, ◌∙◌, ap}
use lib.ListN.{length}
use Rattle.reply.specs.Read.{read}
use Rattle.sheets.specs.Sheets.{all_widths}
use Rattle.sheets.proofs.Puts.{there, lent, length_all, fields_taken}
use Rattle.calls.proofs.Laws.{lent_read}
use Rattle.calls.proofs.give_fields.Goals as goal
use Rattle.calls.proofs.give_fields.Goals.{After-fields_of-numbers}

-- `calls::give_fields` meets its contract: of all fields, those of the sheet are lent out.
all : (c : After-fields_of-numbers) → length c.fields_of-numbers.result ≡ length all_widths
all c = ap length c.fields_of-numbers.ensures ∙ length_all _

pub slice_bounds-numbers-end : goal.slice_bounds-numbers-end
slice_bounds-numbers-end c = there c.args.sheet _ c.fields_of-numbers.result c.field_count-n.ensures (all (goal.at.slice_bounds-numbers-end c).After-fields_of-numbers)

pub slice_bounds-give-end : goal.slice_bounds-give-end
slice_bounds-give-end c = lent c.args.sheet _ _ c.field_count-n.ensures (all (goal.at.slice_bounds-give-end c).After-fields_of-numbers)

pub returns : goal.returns
returns c =
    let a = c.args in
    lent_read _ a.out.now c.give.result _ (ap (λ (xs : List ℕ). read xs) (sym (fields_taken a.sheet a.x _ _ c.field_count-n.ensures c.fields_of-numbers.ensures))) c.give.ensures
