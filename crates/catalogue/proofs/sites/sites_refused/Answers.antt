use borrow.Author.Rules.{rules}
use Rattle.catalogue.specs.Said.{site_table}
use Rattle.catalogue.proofs.sites.sites_refused.Goals as goal

-- `catalogue::sites::sites_refused` meets its contract. Assumes nothing.
pub returns : goal.returns
unfolding site_table
returns c = search rules
