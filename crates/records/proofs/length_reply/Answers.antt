use mathlib.Core.Path.{sym, ◌∙◌, ap}
use Rattle.records.proofs.Replies.{length_wrong, length_right}
use Rattle.records.proofs.length_reply.Goals as goal
use Rattle.reply.specs.Read.{as_result}
use Rattle.std.specs.Prelude.{Err}

-- `records::length_reply` meets its contract. Assumes nothing.
pub returns-then-is_wrong : goal.returns-then-is_wrong
returns-then-is_wrong c = let a = c.args in ap Err c.at.ensures ∙ ap as_result (sym (length_wrong a.k a.d.now a.at (sym c.is_wrong.ensures ∙ c.if-is_wrong.true)))

pub returns : goal.returns
returns c = let a = c.args in ap as_result (sym (length_right a.k a.d.now a.at (sym c.is_wrong.ensures ∙ c.if-is_wrong.false)))
