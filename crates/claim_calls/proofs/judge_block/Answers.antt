use mathlib.Core.Path.{◌∙◌, ap}
use Rattle.deck_calls.specs.Replies.{verdict_code}
use Rattle.claim_calls.proofs.judge_block.Goals as goal

-- `claim_calls::judge_block` meets its contract. Assumes nothing.
pub returns : goal.returns
returns c = c.verdict_code.ensures ∙ ap verdict_code c.of_block-verdict.ensures
