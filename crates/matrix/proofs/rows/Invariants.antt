use Prim.Native.Nat.{suc, ◌≤◌}
use mathlib.Core.List.{[]}
use Rattle.block.specs.Block.{most_atoms}
use Rattle.block.specs.Rows.{no_row, row_reply, said_row}
use Rattle.block.proofs.Filling.{Filled}
use Rattle.matrix.proofs.rows.Given as goal

abbrev pub invariant-loop-i : goal.invariant-loop-i
invariant-loop-i l =
    (l.i ≤ most_atoms) × Filled (λ k. (said_row (row_reply l.n l.bonds (suc k))).row) no_row [] l.rows l.i × Filled (λ k. (said_row (row_reply l.n l.bonds (suc k))).largest) 0 0 l.deep l.i
