use mathlib.Core.Path.{sym, ◌∙◌, ap}
use native.Mathlib.Omega.{arith}
use Rattle.queues.specs.Shelf.{number_in}
use Rattle.queues.specs.Storage.{held_place}
use Rattle.summary.specs.Layout.{summary_bytes, stored_fields}
use Rattle.queues.proofs.Answers.{held_is, look_none, look_held}
use borrow.Author.Tests.{not-true, not-false}
use Rattle.queues.proofs.places.look_in.Goals as goal
use Rattle.reply.specs.Read.{as_result}
use Rattle.std.specs.Prelude.{Ok, Err}

-- `look_in` meets its contract.
pub returns-then-not-is_held : goal.returns-then-not-is_held
returns-then-not-is_held c =
    let h = held_is _ _ _ _ c.is_held.ensures c.place_of-k.ensures.0 ∙ not-true _ c.if-not-is_held.true-raw in
    ap Err c.at.ensures ∙ sym (ap as_result (look_none _ _ stored_fields h))

pub slice_bounds-fields-end : goal.slice_bounds-fields-end
slice_bounds-fields-end c =
    let a = c.args in
    let p = c.requires in
    let k = c.place_of-k.ensures.0 in
    let h = held_is a.s.now a.number _ _ c.is_held.ensures k ∙ not-false _ c.if-not-is_held.false-raw in
    omega (arith, p, held_place (number_in summary_bytes a.s.now) a.number h, k)

pub returns : goal.returns
returns c =
    let a = c.args in
    let k = c.place_of-k.ensures.0 in
    let h = held_is a.s.now a.number _ _ c.is_held.ensures k ∙ not-false _ c.if-not-is_held.false-raw in
    ap Ok c.fields.ensures ∙ sym (ap as_result (look_held a.s.now a.number stored_fields _ h k))
