use Prim.Native.Nat.{◌≤◌}
use Rattle.matrix.specs.Work.{LineOf}
use Rattle.matrix.proofs.along.Given as goal

abbrev pub invariant-loop-j : goal.invariant-loop-j
invariant-loop-j l = (l.j ≤ l.k) × LineOf l.row l.j l.all l.odd l.threes l.largest
