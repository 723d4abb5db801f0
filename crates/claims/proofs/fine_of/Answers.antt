use mathlib.Core.Path.{sym, ◌∙◌}
use Rattle.claims.proofs.Molecules.{fine_none, fine_is}
use Rattle.claims.proofs.fine_of.Goals as goal

-- `claims::fine_of` meets its contract. Assumes nothing.
pub returns-in-Err : goal.returns-in-Err
returns-in-Err c = fine_none _ _ c.requires (sym c.in-Err.is ∙ c.index.ensures)

pub returns-in-Ok : goal.returns-in-Ok
returns-in-Ok c = fine_is _ _ c.requires (sym c.in-Ok.is ∙ c.index.ensures)
