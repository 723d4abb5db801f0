use mathlib.Core.Path.{sym, ◌∙◌}
use Rattle.claims.proofs.Molecules.{deck_refused, deck-read}
use Rattle.claims.proofs.of_deck.Goals as goal

-- `claims::of_deck` meets its contract. Assumes nothing.
pub returns-in-Err : goal.returns-in-Err
returns-in-Err c = deck_refused _ _ (sym c.in-Err.is ∙ c.compose.ensures)

pub returns-in-Ok : goal.returns-in-Ok
returns-in-Ok c = deck-read _ _ _ (sym c.in-Ok.is ∙ c.compose.ensures) c.fields_of-own.ensures c.judged.ensures
