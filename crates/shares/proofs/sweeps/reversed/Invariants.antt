use Prim.Native.Nat.{ℕ, suc, ◌+◌, ◌-◌, ◌≤◌, ◌<◌}
use mathlib.Core.Path.{◌≡◌}
use lib.ListN.{length}
use Rattle.block.specs.Block.{most_atoms}
use Rattle.shares.specs.Work.{at}
use Rattle.shares.proofs.sweeps.reversed.Given as goal

-- `reversed` meets its contract: the levels passed stand from the top down.
abbrev pub invariant-loop-d : goal.invariant-loop-d
invariant-loop-d l = (l.d ≤ l.top + 1) × (length l.back ≡ suc most_atoms) × ((k : ℕ) → k < l.d → at l.back k ≡ at l.sets (l.top - k)) × ((k : ℕ) → l.d ≤ k → at l.back k ≡ 0)
