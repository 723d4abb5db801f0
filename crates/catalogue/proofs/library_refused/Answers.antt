use borrow.Author.Rules.{rules}
use Rattle.catalogue.specs.Said.{site_table}
use Rattle.catalogue.proofs.library_refused.Goals as goal

-- `catalogue::library_refused` meets its contract. Assumes nothing.
pub returns : goal.returns
unfolding site_table
returns c = search rules
