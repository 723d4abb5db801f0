use mathlib.Core.Path.{◌∙◌, ap}
use Rattle.whole_calls.specs.Replies.{match_code}
use Rattle.whole_calls.proofs.matched.Goals as goal

-- `whole_calls::matched` meets its contract. Assumes nothing.
pub returns : goal.returns
returns c = c.match_code.ensures ∙ ap match_code c.check-reply.ensures
