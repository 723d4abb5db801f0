use mathlib.Core.Path.{sym, ◌∙◌, ap}
use Rattle.deck_calls.specs.Replies.{verdict_code}
use Rattle.deck_calls.proofs.verdict_code.Goals as goal

-- `deck_calls::verdict_code` meets its contract. Assumes nothing.
pub returns-in-Refused : goal.returns-in-Refused
returns-in-Refused c = c.code_of.ensures ∙ ap verdict_code (sym c.in-Refused.is)

pub returns-in-Differs : goal.returns-in-Differs
returns-in-Differs c = c.field_of.ensures ∙ ap verdict_code (sym c.in-Differs.is)
