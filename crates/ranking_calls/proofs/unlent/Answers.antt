use mathlib.Core.Path.{sym, ◌∙◌}
use Rattle.library.specs.Values.{values_reply}
use Rattle.ranking_calls.specs.Unlent.{values_refused, values_of}
use Rattle.ranking_calls.proofs.unlent.Goals as goal

-- `ranking_calls::unlent` meets its contract. Assumes nothing.
pub returns-in-Err : goal.returns-in-Err
returns-in-Err c =
    let a = c.args in
    c.code_of.ensures ∙ values_refused (values_reply a.deck.now a.field 0 1) _ (sym c.values-told.ensures.reply ∙ c.in-Err.is)

pub returns-in-Ok : goal.returns-in-Ok
returns-in-Ok c =
    let a = c.args in
    values_of (values_reply a.deck.now a.field 0 1) _ (sym c.values-told.ensures.reply ∙ c.in-Ok.is)
