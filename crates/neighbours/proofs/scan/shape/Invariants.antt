use Prim.Native.Nat.{◌-◌, ◌≤◌}
use mathlib.Core.Path.{◌≡◌}
use lib.ListN.{length}
use Rattle.adjacency.specs.Work.{numbers_at, shaped_from}
use Rattle.neighbours.proofs.scan.shape.Given as goal

-- `shape` meets its contract. The loop's invariant: the answer from `at` on, after k bonds, is the answer.
abbrev pub invariant-loop-x : goal.invariant-loop-x
invariant-loop-x l = (shaped_from (length l.text) 0 0 (numbers_at l.text l.from) ≡ shaped_from (length l.text) l.k l.label (numbers_at l.text l.at)) × (l.at ≤ length l.text) × (l.k ≤ l.at)

abbrev pub decreases-loop-x : goal.decreases-loop-x
decreases-loop-x l = length l.text - l.at
