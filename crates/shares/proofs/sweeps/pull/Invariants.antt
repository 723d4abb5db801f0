use Prim.Native.Nat.{◌+◌, ◌^◌, ◌<◌}
use mathlib.Core.Path.{◌≡◌}
use Rattle.block.specs.Block.{most_atoms}
use Rattle.shares.specs.Work.{at, over_set}
use Rattle.shares.proofs.sweeps.pull.Given as goal

-- `pull` meets its contract: what was taken and what the rest has are what the set has.
abbrev pub invariant-loop-rest : goal.invariant-loop-rest
invariant-loop-rest l = (l.rest < 2 ^ most_atoms) × (l.sum + over_set l.rest (at l.row) ≡ over_set l.set (at l.row))

abbrev pub decreases-loop-rest : goal.decreases-loop-rest
decreases-loop-rest l = l.rest
