use Prim.Native.Nat.{◌≤◌}
use mathlib.Core.Path.{◌≡◌}
use Rattle.catalogue.specs.Library.{is_taken}
use Rattle.catalogue.specs.Table.{sites_in}
use Rattle.catalogue.proofs.sites.is_taken.Given as goal

-- `catalogue::sites::is_taken` meets its contract. Assumes nothing.
abbrev pub invariant-loop-k : goal.invariant-loop-k
invariant-loop-k l = (l.k ≤ l.n) × (is_taken (sites_in l.sites l.n) l.atom ≡ is_taken (sites_in l.sites l.k) l.atom)

abbrev pub decreases-loop-k : goal.decreases-loop-k
decreases-loop-k l = l.k
