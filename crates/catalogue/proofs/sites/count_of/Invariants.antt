use Prim.Native.Nat.{◌^◌, ◌≤◌}
use mathlib.Core.Path.{◌≡◌}
use Rattle.catalogue.specs.Products.{products}
use Rattle.catalogue.specs.Table.{sites_in}
use Rattle.catalogue.proofs.sites.count_of.Given as goal

-- `catalogue::sites::count_of` meets its contract. Assumes nothing.
abbrev pub invariant-loop-k : goal.invariant-loop-k
invariant-loop-k l = (l.k ≤ l.n) × (l.total ≡ products (sites_in l.sites l.k)) × (l.total ≤ 256 ^ l.k)
