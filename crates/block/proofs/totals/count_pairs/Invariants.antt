use Prim.Native.Nat.{suc, ◌≤◌}
use mathlib.Core.Path.{◌≡◌}
use Rattle.half.specs.Half.{row_start}
use Rattle.block.specs.Block.{most_atoms}
use Rattle.block.proofs.Counting.{PairsCounted}
use Rattle.block.proofs.totals.count_pairs.Given as goal

abbrev pub invariant-loop-i : goal.invariant-loop-i
invariant-loop-i l = (l.i ≤ l.m) × (l.m ≤ most_atoms) × (l.from ≡ row_start (suc l.i)) × PairsCounted l.half l.m l.i l.at
