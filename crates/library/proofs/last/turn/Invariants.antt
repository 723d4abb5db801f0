use Prim.Native.Nat.{ℕ, ◌+◌, ◌-◌, ◌≤◌}
use mathlib.Core.List.{List}
use mathlib.Core.Path.{◌≡◌}
use lib.ListN.{length}
use Rattle.catalogue.specs.Library.{Library}
use Rattle.library.specs.Steps.{Ran}
use Rattle.library.specs.Turning.{Going, Turns}
use Rattle.library.proofs.last.turn.Given as goal

-- `library::last::turn` meets its contract. Assumes nothing.
abbrev pub invariant-loop-k : goal.invariant-loop-k
invariant-loop-k loop =
    (length loop.out ≡ length loop.initial.out)
    × (loop.at ≤ length loop.out)
    × (loop.k ≤ loop.left)
    × (loop.k ≡ 0 → loop.at ≡ loop.start)
    × ((d : List ℕ) (l : Library) (whole : Ran) → Turns d l loop.all loop.position (record { stem = loop.stem; place = loop.place; left = loop.left }) → Going loop.sheet d whole loop.initial.out loop.position loop.start → Going loop.sheet d whole loop.out (loop.position + loop.k) loop.at)

abbrev pub decreases-loop-k : goal.decreases-loop-k
decreases-loop-k l = l.left - l.k
