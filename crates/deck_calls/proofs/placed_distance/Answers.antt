use Rattle.deck.specs.Placed.{placed_distance_reply}
use Rattle.calls.proofs.Laws.{lent_number}
use Rattle.deck_calls.proofs.placed_distance.Goals as goal

-- `deck_calls::placed_distance` meets its contract.
pub returns : goal.returns
returns c =
    let a = c.args in
    lent_number _ (placed_distance_reply a.deck.now a.k a.i a.l a.j) c.placed_distance-answer.ensures c.give_number.ensures
