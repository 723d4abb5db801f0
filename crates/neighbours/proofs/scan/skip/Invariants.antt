use Prim.Native.Nat.{◌-◌, ◌≤◌}
use mathlib.Core.Path.{◌≡◌}
use lib.ListN.{length}
use Rattle.adjacency.specs.Work.{numbers_at}
use Rattle.neighbours.proofs.scan.skip.Given as goal

-- `skip` meets its contract. The loop's invariant: the numbers from i on are those from `at` on.
abbrev pub invariant-loop-i : goal.invariant-loop-i
invariant-loop-i l = (numbers_at l.text l.at ≡ numbers_at l.text l.i) × (l.at ≤ l.i) × (l.i ≤ length l.text)

abbrev pub decreases-loop-i : goal.decreases-loop-i
decreases-loop-i l = length l.text - l.i
