use mathlib.Core.Path.{sym, ◌∙◌}
use Rattle.text.proofs.Numbers.{one_digit, one_none}
use Rattle.text.proofs.number_of_one.Goals as goal

-- `text::number_of_one` meets its contract. Assumes nothing.
pub returns-then-is_digit : goal.returns-then-is_digit
returns-then-is_digit c = c.digit.ensures ∙ sym (one_digit c.args.c (sym c.is_digit.ensures ∙ c.if-is_digit.true))

pub returns-else-is_digit : goal.returns-else-is_digit
returns-else-is_digit c = sym (one_none c.args.c (sym c.is_digit.ensures ∙ c.if-is_digit.false))
