use mathlib.Core.Path.{sym, ◌∙◌, ap}
use native.Mathlib.Omega.{arith}
use Rattle.std.specs.Prelude.{Err}
use Rattle.queues.proofs.Answers.{held_is, room_zero, room_held, room_fine, room_none}
use Rattle.queues.proofs.places.room_reply.Goals as goal
use Rattle.reply.specs.Read.{as_result}

-- `room_reply` meets its contract.
pub returns-then-number-eq0 : goal.returns-then-number-eq0
returns-then-number-eq0 c = ap Err c.at.ensures ∙ sym (ap as_result (room_zero _ _ c.if-number-eq0.true))

pub returns-then-is_held : goal.returns-then-is_held
returns-then-is_held c =
    let h = held_is _ _ _ _ c.is_held.ensures c.place_of.ensures.0 ∙ c.if-is_held.true in
    ap Err c.at-then-is_held.ensures ∙ sym (ap as_result (room_held _ _ c.if-number-eq0.false h))

pub returns-then-k-lt-PLACES : goal.returns-then-k-lt-PLACES
returns-then-k-lt-PLACES c =
    let h = held_is _ _ _ _ c.is_held.ensures c.place_of.ensures.0 ∙ c.if-is_held.false in
    sym (ap as_result (room_fine _ _ c.if-number-eq0.false h (omega (arith, c.if-k-lt-PLACES.true, c.requires))))

pub returns : goal.returns
returns c =
    let h = held_is _ _ _ _ c.is_held.ensures c.place_of.ensures.0 ∙ c.if-is_held.false in
    ap Err c.at-2.ensures ∙ sym (ap as_result (room_none _ _ c.if-number-eq0.false h (omega (arith, c.if-k-lt-PLACES.false, c.requires))))
