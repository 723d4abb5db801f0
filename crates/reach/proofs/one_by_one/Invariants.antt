use Prim.Native.Nat.{◌+◌, ◌*◌, ◌≤◌}
use mathlib.Core.Path.{◌≡◌}
use Rattle.block.specs.Block.{most_atoms}
use Rattle.reach.specs.Reach.{together_in}
use Rattle.reach.proofs.one_by_one.Given as goal

abbrev pub invariant-loop-i : goal.invariant-loop-i
invariant-loop-i l = (l.i ≤ l.n) × (together_in l.sets l.from + l.met ≡ together_in l.sets l.i) × (l.met ≤ most_atoms * l.i)
