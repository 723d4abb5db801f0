use Prim.Native.Nat.{ℕ, ◌*◌}
use mathlib.Core.Path.{sym, ◌∙◌, ap}
use native.Mathlib.Omega.{arith}
use lib.Seq.{sets}
use Rattle.queues.specs.Shelf.{number_in, zero_number}
use Rattle.queues.specs.Storage.{held_place}
use Rattle.summary.specs.Layout.{summary_bytes}
use Rattle.std.specs.Prelude.{Err}
use Rattle.queues.proofs.Answers.{held_is, drop_none, drop_held, dropped_none, dropped_held}
use borrow.Author.Tests.{not-true, not-false}
use Rattle.queues.proofs.places.drop_from.Goals as goal
use Rattle.reply.specs.Read.{as_result}

-- `drop_from` meets its contract.
pub returns-then-not-is_held : goal.returns-then-not-is_held
returns-then-not-is_held c =
    let h = held_is _ _ _ _ c.is_held.ensures c.place_of-k.ensures.0 ∙ not-true _ c.if-not-is_held.true-raw in
    record { reply = ap Err c.at.ensures ∙ sym (ap as_result (drop_none _ _ h)); bytes = dropped_none _ _ h }

pub free-requires : goal.free-requires
free-requires c =
    let a = c.args in
    let p = c.requires in
    let k = c.place_of-k.ensures.0 in
    let h = held_is a.s.now a.number _ _ c.is_held.ensures k ∙ not-false _ c.if-not-is_held.false-raw in
    omega (arith, p, held_place (number_in summary_bytes a.s.now) a.number h, k)

pub returns : goal.returns
returns c =
    let a = c.args in
    let k = c.place_of-k.ensures.0 in
    let h = held_is a.s.now a.number _ _ c.is_held.ensures k ∙ not-false _ c.if-not-is_held.false-raw in
    record { reply = sym (ap as_result (drop_held _ _ h)); bytes = c.free.ensures ∙ ap (λ (i : ℕ). sets a.s.now (summary_bytes * i) zero_number) k ∙ sym (dropped_held _ _ h) }
