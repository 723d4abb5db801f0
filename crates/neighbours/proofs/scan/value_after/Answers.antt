use mathlib.Core.Path.{sym, ◌∙◌}
use Rattle.neighbours.proofs.scan.value_after.Goals as goal

-- `value_after` meets its contract. Assumes nothing.
pub returns-then-is_digit : goal.returns-then-is_digit
returns-then-is_digit c = rw (sym c.is_digit.ensures ∙ c.if-is_digit.true) c.grown.ensures

pub returns-else-is_digit : goal.returns-else-is_digit
returns-else-is_digit c = rw (sym c.is_digit.ensures ∙ c.if-is_digit.false)
