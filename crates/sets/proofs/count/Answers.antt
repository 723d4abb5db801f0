use mathlib.Core.Path.{◌∙◌, ap}
use Rattle.sets.proofs.Replies.{from_first}
use Rattle.sets.proofs.count.Goals as goal
use Rattle.reply.specs.Read.{as_result}

-- `sets::count` meets its contract: atom 1 is there in every block that is not refused.
pub returns : goal.returns
returns c = let a = c.args in c.count_from.ensures ∙ ap as_result (from_first a.n a.bonds.now)
