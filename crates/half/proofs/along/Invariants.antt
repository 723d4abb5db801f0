use Prim.Native.Nat.{◌≤◌}
use mathlib.Core.Path.{◌≡◌}
use Rattle.half.specs.Half.{most_atoms, row_start}
use Rattle.half.specs.Work.{Upto}
use Rattle.half.proofs.along.Given as goal

abbrev pub invariant-loop-j : goal.invariant-loop-j
invariant-loop-j l = (1 ≤ l.i) × (l.i ≤ l.j) × (l.j ≤ most_atoms) × (l.from ≡ row_start l.i) × Upto l.half l.i l.j l.line
