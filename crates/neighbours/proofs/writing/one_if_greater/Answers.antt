use mathlib.Core.Path.{sym, ◌∙◌}
use Rattle.neighbours.proofs.writing.one_if_greater.Goals as goal

-- `one_if_greater` meets its contract. Assumes nothing.
pub returns-then-is_greater : goal.returns-then-is_greater
returns-then-is_greater c = rw (sym c.is_greater.ensures ∙ c.if-is_greater.true)

pub returns-else-is_greater : goal.returns-else-is_greater
returns-else-is_greater c = rw (sym c.is_greater.ensures ∙ c.if-is_greater.false)
