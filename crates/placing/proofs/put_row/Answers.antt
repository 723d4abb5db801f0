use mathlib.Core.List.{List}
use mathlib.Core.Path.{◌∙◌, ap}
use native.Mathlib.Omega.{arith}
use lib.ListN.{length}
use Rattle.placing.specs.Ranked.{Entry, put_all, coming}
use Rattle.placing.specs.Entries.{entries_in, room, laid, value_in}
use Rattle.placing.proofs.Rows.{all_said}
use Rattle.placing.proofs.Coming.{from_first}
use Rattle.placing.proofs.put_row.Goals as goal

-- `placing::put_row` meets its contract. Assumes nothing.
pub put_in_parts-requires : goal.put_in_parts-requires
put_in_parts-requires c = record { n_in_bounds = (omega arith, omega (arith, c.fewer-k.ensures)); sorted = c.in_order.ensures c.if-in_order.true }

pub returns-then-in_order : goal.returns-then-in_order
returns-then-in_order c =
    let a = c.args in
    let come = coming (value_in a.values.now) a.tag (length a.values.now) in
    let e = all_said a.greatest come a.entries.now a.held c.fewer-k.result c.fewer-k.ensures in
    let p = c.put_in_parts.ensures in
    record { count = p.count ∙ ap length e; numbers = p.numbers ∙ ap (λ (l : List Entry). laid l a.entries.now) e }

pub returns : goal.returns
returns c =
    let a = c.args in
    let k = c.fewer-k.result in
    let first = from_first (value_in a.values.now) a.tag (length a.values.now) in
    let come = coming (value_in a.values.now) a.tag (length a.values.now) in
    let e = ap (λ (l : List Entry). put_all (room a.entries.now) a.greatest l (entries_in a.entries.now k)) first
    ∙ all_said a.greatest come a.entries.now a.held k c.fewer-k.ensures in
    let p = c.put_each.ensures in
    record { count = p.count ∙ ap length e; numbers = p.numbers ∙ ap (λ (l : List Entry). laid l a.entries.now) e }
