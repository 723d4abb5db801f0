use mathlib.Core.Path.{sym, ◌∙◌}
use Rattle.neighbours.proofs.scan.is_good.Goals as goal

-- `is_good` meets its contract. Assumes nothing.
pub returns-then-is_digit : goal.returns-then-is_digit
returns-then-is_digit c = rw (sym c.is_digit.ensures ∙ c.if-is_digit.true)

pub returns-else-is_digit : goal.returns-else-is_digit
returns-else-is_digit c = rw (sym c.is_digit.ensures ∙ c.if-is_digit.false) c.is_apart.ensures
