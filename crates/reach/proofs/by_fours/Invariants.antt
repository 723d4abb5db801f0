use Prim.Native.Nat.{◌*◌, ◌≤◌}
use mathlib.Core.Path.{◌≡◌}
use Rattle.block.specs.Block.{most_atoms}
use Rattle.reach.specs.Reach.{Low, together_in}
use Rattle.reach.proofs.by_fours.Given as goal

abbrev pub invariant-loop-k : goal.invariant-loop-k
invariant-loop-k l = (l.k ≤ l.q) × (Low (4 * l.q) l.sets → l.met ≡ together_in l.sets (4 * l.k)) × (l.met ≤ most_atoms * l.k)
