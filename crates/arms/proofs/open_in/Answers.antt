use borrow.Author.Rules.{rules}
use Rattle.arms.specs.Arms.{opened}
use Rattle.arms.proofs.open_in.Goals as goal

-- `arms::open_in` meets its contract. Assumes nothing.
pub returns : goal.returns
unfolding opened
returns c = search rules
