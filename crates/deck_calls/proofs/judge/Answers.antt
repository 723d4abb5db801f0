use mathlib.Core.Path.{◌∙◌, ap}
use Rattle.deck_calls.specs.Replies.{verdict_code}
use Rattle.deck_calls.proofs.judge.Goals as goal

-- `deck_calls::judge` meets its contract.
pub returns : goal.returns
returns c = c.verdict_code.ensures ∙ ap verdict_code c.judge-verdict.ensures
