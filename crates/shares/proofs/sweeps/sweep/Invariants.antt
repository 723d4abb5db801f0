use Prim.Native.Nat.{ℕ, suc, ◌+◌, ◌*◌, ◌-◌, ◌^◌, ◌≤◌, ◌<◌}
use mathlib.Core.Bool.{Bool}
use mathlib.Core.Path.{◌≡◌}
use lib.ListN.{length}
use Rattle.block.specs.Block.{most_atoms}
use Rattle.shares.specs.Work.{at, NearSets, Levels, Rule}
use Rattle.shares.proofs.Sweeping.{Sweeping}
use Rattle.shares.proofs.sweeps.sweep.Given as goal

-- `sweep` meets its contract: the row is right for the atoms passed.
abbrev pub invariant-loop-d : goal.invariant-loop-d
invariant-loop-d l =
    (l.d ≤ l.top + 1) × (length l.row ≡ suc most_atoms) × ((w : ℕ) → at l.row w ≤ l.cap)
    × ((n : ℕ) (key : ℕ → ℕ) → Levels n key l.sets l.top → l.rest < 2 ^ n)
    × ((n : ℕ) (B : ℕ → ℕ → Bool) (key F : ℕ → ℕ) → NearSets n B l.near → Levels n key l.sets l.top → Rule n B key (at l.initial.row) F → Sweeping n key (at l.initial.row) F l.top l.cap l.d l.below l.rest l.row)

abbrev pub decreases-loop-d : goal.decreases-loop-d
decreases-loop-d l = (l.top + 1 - l.d) * 2 ^ most_atoms + l.rest
