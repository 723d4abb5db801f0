use borrow.Author.Rules.{rules}
use Rattle.records.specs.Bytes.{little}
use Rattle.shelf.proofs.number_at.Goals as goal

-- `shelf::number_at` meets its contract. Assumes nothing.
pub returns : goal.returns
unfolding little
returns c = search rules
