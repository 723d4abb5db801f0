use mathlib.Core.Path.{sym, ap, ◌∙◌}
use Rattle.sdfile.specs.Sdf.{header_from}
use Rattle.sdfile.proofs.Items.{item_no_name, item_none, item_there}
use Rattle.sdfile.proofs.item.Goals as goal
use Rattle.reply.specs.Read.{as_result}

-- `sdfile::item` meets its contract. Assumes nothing.
pub returns-then-is_no_name : goal.returns-then-is_no_name
returns-then-is_no_name c =
    let a = c.args in
    c.none.ensures ∙ sym (ap as_result (item_no_name a.d.now a.name.now (sym c.is_no_name.ensures ∙ c.if-is_no_name.true)))

pub returns-then-d-one : goal.returns-then-d-one
returns-then-d-one c =
    let a = c.args in
    let h = c.header_from-one in
    let n = sym c.is_no_name.ensures ∙ c.if-is_no_name.false in
    let is = h.ensures ∙ ap (header_from a.d.now a.name.now) c.items_from-items.ensures in
    c.none-then-d-one.ensures ∙ sym (ap as_result (item_none a.d.now a.name.now n h.result is c.if-d-one.true))

pub returns : goal.returns
returns c =
    let a = c.args in
    let v = c.next_line-at in
    let h = c.header_from-one in
    let n = sym c.is_no_name.ensures ∙ c.if-is_no_name.false in
    let is = h.ensures ∙ ap (header_from a.d.now a.name.now) c.items_from-items.ensures in
    c.value_at.ensures ∙ sym (ap as_result (item_there a.d.now a.name.now n h.result is c.if-d-one.false v.result v.ensures))
