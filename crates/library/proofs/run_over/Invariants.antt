use Prim.Native.Nat.{ℕ, ◌-◌, ◌≤◌}
use mathlib.Core.List.{List}
use mathlib.Core.Path.{◌≡◌}
use lib.ListN.{length}
use Rattle.assembly.specs.declared.BlockAt.{BlockAt}
use Rattle.catalogue.specs.Library.{Library}
use Rattle.catalogue.specs.Products.{products}
use Rattle.library.specs.Held.{Spread}
use Rattle.library.specs.Steps.{steps_from}
use Rattle.library.specs.Turning.{Going}
use Rattle.library.proofs.run_over.Given as goal

-- `library::run_over` meets its contract. Assumes nothing.
abbrev pub invariant-loop-p : goal.invariant-loop-p
invariant-loop-p loop =
    (length loop.out ≡ length loop.initial.out)
    × (loop.at ≤ length loop.out)
    × ((d : List ℕ) (l : Library) (bs : List BlockAt) (xs : List ℕ) → Spread d l bs xs loop.sites loop.n loop.core loop.all → loop.many ≡ products l.sites → Going loop.sheet d (steps_from (length loop.initial.out) loop.sheet d loop.position loop.initial.out) loop.out loop.p loop.at)

abbrev pub decreases-loop-p : goal.decreases-loop-p
decreases-loop-p l = l.many - l.p
