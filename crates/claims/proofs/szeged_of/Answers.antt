use mathlib.Core.Path.{sym, ◌∙◌}
use Rattle.claims.proofs.Molecules.{szeged_none, szeged_is}
use Rattle.claims.proofs.szeged_of.Goals as goal

-- `claims::szeged_of` meets its contract. Assumes nothing.
pub returns-in-Err : goal.returns-in-Err
returns-in-Err c = szeged_none _ _ c.requires (sym c.in-Err.is ∙ c.terms.ensures.reply)

pub returns-in-Ok : goal.returns-in-Ok
returns-in-Ok c = szeged_is _ _ c.requires (sym c.in-Ok.is ∙ c.terms.ensures.reply)
