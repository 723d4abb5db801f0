use Rattle.library.proofs.Filling.{field_said}
use Rattle.library.proofs.last.field_of.Goals as goal

-- `library::last::field_of` meets its contract. Assumes nothing.
pub returns : goal.returns
returns c = let a = c.args in field_said a.x a.field
