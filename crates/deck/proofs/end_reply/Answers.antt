use mathlib.Core.Path.{sym, ◌∙◌, ap}
use Rattle.deck.proofs.Parts.{bytes_follow, nothing_follows}
use Rattle.deck.proofs.end_reply.Goals as goal
use Rattle.reply.specs.Read.{as_result}
use Rattle.std.specs.Prelude.{Err}

-- `deck::end_reply` meets its contract. Assumes nothing.
pub returns-then-at-d : goal.returns-then-at-d
returns-then-at-d c = let a = c.args in ap Err c.at.ensures ∙ ap as_result (sym (bytes_follow a.d.now a.at c.if-at-d.true))

pub returns : goal.returns
returns c = let a = c.args in ap as_result (sym (nothing_follows a.d.now a.at c.if-at-d.false))
