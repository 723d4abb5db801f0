use Prim.Native.Nat.{ℕ, ◌-◌, ◌≤◌}
use mathlib.Core.List.{List}
use mathlib.Core.Path.{◌≡◌}
use lib.ListN.{length}
use Rattle.assembly.specs.declared.BlockAt.{BlockAt}
use Rattle.catalogue.specs.Library.{Library}
use Rattle.catalogue.specs.Products.{products}
use Rattle.library.specs.Held.{Spread}
use Rattle.library.specs.Values.{values_of}
use Rattle.library.specs.Filled.{Filled}
use Rattle.library.proofs.values_over.Given as goal

-- `library::values_over` meets its contract. Assumes nothing.
abbrev pub invariant-loop-at : goal.invariant-loop-at
invariant-loop-at loop =
    (length loop.row ≡ length loop.initial.row)
    × (loop.at ≤ loop.count)
    × ((d : List ℕ) (l : Library) (bs : List BlockAt) (xs : List ℕ) → Spread d l bs xs loop.sites loop.n loop.core loop.all → loop.count ≤ products l.sites - loop.position → Filled (values_of d l loop.field loop.position) loop.initial.row loop.row loop.at)

abbrev pub decreases-loop-at : goal.decreases-loop-at
decreases-loop-at l = l.count - l.at
