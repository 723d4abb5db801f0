use mathlib.Core.Path.{◌∙◌}
use borrow.Author.Tests.{lt-ltb, le-ltb}
use Rattle.text.proofs.writing.digit_or_blank.Goals as goal

-- `text::digit_or_blank` meets its contract. Assumes nothing.
pub returns-then-n-least : goal.returns-then-n-least
returns-then-n-least c = simp (lt-ltb _ _ c.if-n-least.true)

pub returns-else-n-least : goal.returns-else-n-least
returns-else-n-least c = c.last_digit.ensures ∙ simp (le-ltb _ _ c.if-n-least.false)
