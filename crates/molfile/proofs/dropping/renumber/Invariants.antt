use Prim.Native.Nat.{ℕ, ◌-◌, ◌≤◌}
use mathlib.Core.Path.{◌≡◌}
use lib.ListN.{get_or}
use Rattle.molfile.specs.Work.{dropped_by, Numbered}
use Rattle.molfile.proofs.dropping.renumber.Given as goal

-- `renumber` meets its contract. The loop's invariant: the first i atoms are numbered, and the weights of the others stand as they were.
abbrev pub invariant-loop-i : goal.invariant-loop-i
invariant-loop-i l =
    (l.i ≤ l.n) × Numbered (dropped_by l.marks l.initial.weights) l.i l.weights l.count × ((j : ℕ) → l.i ≤ j → get_or l.weights j 0 ≡ get_or l.initial.weights j 0)
