use mathlib.Core.Bool.{true≢false}
use mathlib.Core.Path.{sym, ◌∙◌}
use Rattle.claims.proofs.fine_asked.Goals as goal

-- `claims::fine_asked` meets its contract. Assumes nothing.
pub returns-then-is_asked : goal.returns-then-is_asked
returns-then-is_asked c = λ a. c.fine_of.ensures

pub returns : goal.returns
returns c = λ a. absurd (true≢false (sym a ∙ sym c.is_asked.ensures ∙ c.if-is_asked.false))
