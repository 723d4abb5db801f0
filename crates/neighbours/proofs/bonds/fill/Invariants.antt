use Prim.Native.Nat.{◌-◌, ◌≤◌}
use lib.ListN.{length}
use Rattle.adjacency.specs.Work.{numbers_at, steps_at, Filling}
use Rattle.neighbours.proofs.bonds.fill.Given as goal

-- `fill` meets its contract. The loop's invariant: p bytes are put, and what is left to put gives the whole.
abbrev pub invariant-loop-x : goal.invariant-loop-x
invariant-loop-x l = Filling l.n (steps_at 0 l.text l.from) l.initial.out l.label (numbers_at l.text l.at) l.out l.p × (l.at ≤ length l.text)

abbrev pub decreases-loop-x : goal.decreases-loop-x
decreases-loop-x l = length l.text - l.at
