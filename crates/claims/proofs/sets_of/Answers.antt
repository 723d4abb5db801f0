use mathlib.Core.Path.{sym, ◌∙◌}
use Rattle.claims.proofs.Molecules.{sets_none, sets_is}
use Rattle.claims.proofs.sets_of.Goals as goal

-- `claims::sets_of` meets its contract. Assumes nothing.
pub returns-in-Err : goal.returns-in-Err
returns-in-Err c = let w = sets_none _ _ c.requires (sym c.in-Err.is ∙ c.count.ensures) in record { bonds = w.0; atoms = w.1 }

pub returns-in-Ok : goal.returns-in-Ok
returns-in-Ok c = let w = sets_is _ _ c.requires (sym c.in-Ok.is ∙ c.count.ensures) in record { bonds = w.0; atoms = w.1 }
