use Prim.Native.Nat.{ℕ, ◌≤◌}
use mathlib.Core.List.{List}
use Rattle.block.specs.Block.{most_atoms}
use Rattle.block.specs.Near.{ReadyBlock}
use Rattle.block.proofs.Filling.{Rows}
use Rattle.block.proofs.search.from_all.Given as goal

abbrev pub invariant-loop-i : goal.invariant-loop-i
invariant-loop-i l = (l.i ≤ l.n) × (l.n ≤ most_atoms) × ((xs : List ℕ) → ReadyBlock l.n xs l.near → Rows l.n xs l.half l.far l.i)
