use Prim.Native.Nat.{◌-◌, ◌*◌}
use mathlib.Core.Path.{◌≡◌}
use lib.ListN.{length}
use Rattle.block.specs.Block.{most_atoms}
use Rattle.reach.proofs.Levels.{Level}
use Rattle.reach.specs.Reach.{of_level}
use Rattle.reach.proofs.summed.Given as goal

abbrev pub invariant-loop-met : goal.invariant-loop-met
invariant-loop-met l =
    (l.pairs ≡ l.n * l.n) × (length l.reached ≡ length l.initial.reached) × (length l.odd ≡ most_atoms) × (length l.even ≡ most_atoms)
    × Level l.n l.bonds l.k (of_level l.d l.odd l.even) (of_level l.d l.even l.odd) l.reached l.s l.met l.d

abbrev pub decreases-loop-met : goal.decreases-loop-met
decreases-loop-met l = l.pairs - l.met
