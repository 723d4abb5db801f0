use Prim.Native.Nat.{ℕ, suc, ◌+◌, ◌/◌, ◌≤◌, ◌<◌}
use mathlib.Core.Bool.{cond}
use mathlib.Core.Path.{◌≡◌}
use lib.Dec.{ltb}
use lib.ListN.{length}
use Rattle.block.specs.Block.{most_atoms}
use Rattle.shares.specs.Work.{at}
use Rattle.shares.proofs.flows.weights.Given as goal

-- `weights` meets its contract: the atoms passed after start have their part, the others none.
abbrev pub invariant-loop-v : goal.invariant-loop-v
invariant-loop-v l = (l.start < l.v) × (l.v ≤ l.n + 1) × (length l.row ≡ suc most_atoms) × ((u : ℕ) → 0 < u → u < l.v → at l.row u ≡ cond (ltb l.start u) (l.d / at l.c u) 0) × ((w : ℕ) → at l.row w ≤ l.d)
