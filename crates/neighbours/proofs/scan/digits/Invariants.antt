use Prim.Native.Nat.{◌-◌, ◌<◌, ◌≤◌}
use mathlib.Core.Path.{◌≡◌}
use lib.ListN.{length, drop}
use Rattle.adjacency.specs.Neighbours.{text_number, run, numbers_from, too_much}
use Rattle.adjacency.specs.Work.{numbers_at}
use Rattle.neighbours.proofs.scan.digits.Given as goal

-- `digits` meets its contract. The loop's invariant: the numbers are those that go on with the digits so far.
abbrev pub invariant-loop-next : goal.invariant-loop-next
invariant-loop-next l = (numbers_at l.text l.at ≡ numbers_from (run (text_number l.value l.at)) l.next (drop l.next l.text)) × (l.at < l.next) × (l.next ≤ length l.text) × (l.value ≤ too_much)

abbrev pub decreases-loop-next : goal.decreases-loop-next
decreases-loop-next l = length l.text - l.next
