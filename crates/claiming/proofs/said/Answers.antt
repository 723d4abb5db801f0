use mathlib.Core.Path.{sym, ◌∙◌, ap}
use Rattle.std.specs.Prelude.{Err}
use Rattle.claiming.proofs.Steps.{said_unread, said_read}
use Rattle.claiming.proofs.said.Goals as goal

-- `claiming::said` meets its contract. Assumes nothing.
pub returns-in_default : goal.returns-in_default
returns-in_default c = said_unread _ _ _ (sym c.in_default.is ∙ c.number.ensures) (ap Err c.at.ensures)

pub returns : goal.returns
returns c = said_read _ _ _ _ (sym c.in-Some.is ∙ c.number.ensures)
