use Prim.Native.Nat.{ℕ}
use mathlib.Core.List.{List}
use mathlib.Core.Path.{◌≡◌, sym, ap, ◌∙◌}
use Rattle.std.specs.Prelude.{Err}
use Rattle.reply.specs.Read.{refusal, as_result}
use Rattle.reply.specs.Chain.{refused_read}
use Rattle.records.specs.Records.{payload_at}
use Rattle.assembly.specs.Placements.{shelf_reply}
use Rattle.assembly.proofs.Faults.{shelf_few}
use Rattle.shelf.specs.Shelf.{shelf_in}
use Rattle.deck.specs.Deck.{placement_place}
use Rattle.deck.specs.Said.{moved_reply}
use Rattle.deck.proofs.Turns.{moved_said}
use Rattle.compose.proofs.reading.assembly_reply.Goals as goal
use Rattle.compose.proofs.reading.assembly_reply.Goals.{After-check}

-- `compose::reading::assembly_reply` meets its contract. Assumes nothing.
check-is : (c : After-check) → c.check.result ≡ as_result (shelf_reply (shelf_in c.args.book.now) (payload_at c.args.d.now c.args.at))
check-is c = c.check.ensures ∙ ap (λ (xs : List ℕ). as_result (shelf_reply (shelf_in c.args.book.now) xs)) c.payload_at.ensures.bytes

pub placement_place-requires : goal.placement_place-requires
placement_place-requires c = (c.requires, shelf_few (shelf_in c.args.book.now) (payload_at c.args.d.now c.args.at) c.in-Err.r (refused_read _ c.in-Err.r (sym (check-is (goal.at.placement_place-requires c).After-check) ∙ c.in-Err.is)))

pub returns-in-Ok : goal.returns-in-Ok
returns-in-Ok c = ap (moved_reply (placement_place c.args.at)) (sym c.in-Ok.is ∙ check-is (goal.at.returns-in-Ok c).After-check)
    ∙ moved_said (placement_place c.args.at) (shelf_reply (shelf_in c.args.book.now) (payload_at c.args.d.now c.args.at))

pub returns-in-Err : goal.returns-in-Err
returns-in-Err c = ap (λ (p : ℕ). Err (refusal c.in-Err.r.number p)) c.placement_place.ensures
    ∙ ap (moved_reply (placement_place c.args.at)) (sym c.in-Err.is ∙ check-is (goal.at.returns-in-Err c).After-check)
    ∙ moved_said (placement_place c.args.at) (shelf_reply (shelf_in c.args.book.now) (payload_at c.args.d.now c.args.at))
