use Prim.Native.Nat.{◌-◌, ◌≤◌}
use mathlib.Core.List.{[]}
use mathlib.Core.Path.{◌≡◌}
use lib.ListN.{length, take}
use Rattle.assembly.specs.Book.{block_graph, book_of}
use Rattle.catalogue.specs.Library.{most_sites, library_kind, sites_from}
use Rattle.catalogue.specs.Said.{site_table}
use Rattle.catalogue.specs.Table.{sites_in}
use Rattle.catalogue.proofs.sites.sites_from.Given as goal

-- `catalogue::sites::sites_from` meets its contract. Assumes nothing.
abbrev pub invariant-loop-n : goal.invariant-loop-n
invariant-loop-n l = (l.n ≤ l.total) × (l.p ≤ length l.xs) × (length l.sites ≡ most_sites) × (site_table (sites_in l.sites l.n) ≡ l.sites) × (sites_from (book_of l.d (take l.count l.blocks)) (block_graph l.d l.core) l.xs l.at l.total library_kind.fixed [] ≡ sites_from (book_of l.d (take l.count l.blocks)) (block_graph l.d l.core) l.xs l.at (l.total - l.n) l.p (sites_in l.sites l.n))

abbrev pub decreases-loop-n : goal.decreases-loop-n
decreases-loop-n l = l.total - l.n
