use Prim.Native.Nat.{◌≤◌}
use Rattle.block.specs.Block.{most_atoms}
use Rattle.matrix.specs.Work.{UpTo}
use Rattle.matrix.proofs.sums.Given as goal

abbrev pub invariant-loop-i : goal.invariant-loop-i
invariant-loop-i l = (l.i ≤ l.m) × (l.m ≤ most_atoms) × UpTo l.rows l.i l.w l.odd l.threes l.largest
