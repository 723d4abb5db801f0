use mathlib.Core.Path.{sym, ◌∙◌, ap}
use Rattle.deck_calls.specs.Replies.{written_code}
use Rattle.deck_calls.proofs.written_code.Goals as goal

-- `deck_calls::written_code` meets its contract.
pub returns-in-Err : goal.returns-in-Err
returns-in-Err c = c.code_of.ensures ∙ ap written_code (sym c.in-Err.is)
