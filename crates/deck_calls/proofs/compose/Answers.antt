use Rattle.deck.specs.declared.Form.TheVariants.{Composed}
use Rattle.compose.specs.Fields.{fields_reply}
use Rattle.calls.proofs.Blocks.{lent_fields}
use Rattle.deck_calls.proofs.compose.Goals as goal

-- `deck_calls::compose` meets its contract.
pub returns : goal.returns
returns c =
    let a = c.args in
    lent_fields a.sheet _ (fields_reply Composed a.deck.now) c.compose-answer.ensures c.give_indices.ensures
