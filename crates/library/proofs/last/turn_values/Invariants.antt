use Prim.Native.Nat.{ℕ, ◌+◌, ◌-◌, ◌≤◌}
use mathlib.Core.List.{List}
use mathlib.Core.Path.{◌≡◌}
use lib.ListN.{length}
use Rattle.catalogue.specs.Library.{Library}
use Rattle.library.specs.Turning.{Turns}
use Rattle.library.specs.Values.{values_of}
use Rattle.library.specs.Filled.{Filled}
use Rattle.library.proofs.last.turn_values.Given as goal

-- `library::last::turn_values` meets its contract. Assumes nothing.
abbrev pub invariant-loop-i : goal.invariant-loop-i
invariant-loop-i loop =
    (length loop.row ≡ length loop.initial.row)
    × (loop.i ≤ loop.left)
    × (loop.start + loop.i ≤ loop.end)
    × ((d : List ℕ) (l : Library) (position : ℕ) (old : List ℕ) → Turns d l loop.all (position + loop.start) (record { stem = loop.stem; place = loop.place; left = loop.left })
    → Filled (values_of d l loop.field position) old loop.initial.row loop.start → Filled (values_of d l loop.field position) old loop.row (loop.start + loop.i))

abbrev pub decreases-loop-i : goal.decreases-loop-i
decreases-loop-i l = l.left - l.i
