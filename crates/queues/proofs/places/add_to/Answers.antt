use mathlib.Core.Path.{sym, ◌∙◌, ap}
use native.Mathlib.Omega.{arith}
use Rattle.reply.specs.Chain.{fine_read, refused_read}
use Rattle.queues.specs.Shelf.{room_reply}
use Rattle.summary.specs.Layout.{summary_bytes}
use Rattle.queues.proofs.Answers.{add_unroomed, added_unroomed, add_roomed, added_roomed, room_place}
use Rattle.queues.proofs.places.add_to.Goals as goal
use Rattle.reply.specs.Read.{as_result}

-- `add_to` meets its contract.
pub room_reply-requires : goal.room_reply-requires
room_reply-requires c = c.place_of-k.ensures.0

pub fill_in-requires : goal.fill_in-requires
fill_in-requires c =
    let k = c.place_of-k.ensures.0 in
    let f = fine_read (room_reply summary_bytes c.args.s.now c.args.number) (sym c.room_reply.ensures ∙ c.in-Ok.is) in
    (c.requires, k, omega (arith, k, room_place c.args.s.now c.args.number f))

pub returns-in-Err : goal.returns-in-Err
returns-in-Err c =
    let a = c.args in
    let e = refused_read (room_reply summary_bytes a.s.now a.number) _ (sym c.room_reply.ensures ∙ c.in-Err.is) in
    record { reply = c.not_added.ensures ∙ sym (ap as_result (add_unroomed a.s.now a.number a.n a.bonds.now _ e)); bytes = added_unroomed a.s.now a.number a.n a.bonds.now _ e }

pub returns-in-Ok : goal.returns-in-Ok
returns-in-Ok c =
    let a = c.args in
    let f = fine_read (room_reply summary_bytes a.s.now a.number) (sym c.room_reply.ensures ∙ c.in-Ok.is) in
    record { reply = c.fill_in.ensures.reply ∙ sym (ap as_result (add_roomed a.s.now a.number a.n a.bonds.now f)); bytes = c.fill_in.ensures.bytes ∙ sym (added_roomed a.s.now a.number a.n a.bonds.now f) }
