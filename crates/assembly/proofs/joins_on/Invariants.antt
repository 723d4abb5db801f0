use Prim.Native.Nat.{◌+◌, ◌≤◌}
use mathlib.Core.Path.{◌≡◌}
use Rattle.assembly.specs.Placements.{placement_at, join_on, joins_on}
use Rattle.assembly.specs.Work.{own_on}
use Rattle.assembly.proofs.joins_on.Given as goal

-- `assembly::joins_on` meets its contract. The loop's invariant: the total is that of the joins up to k, but with the own side of all. Assumes nothing.
abbrev pub invariant-loop-k : goal.invariant-loop-k
invariant-loop-k l =
    let joins = join_on (placement_at l.xs) in
    (l.total + own_on joins l.k l.p l.a ≡ joins_on joins l.k l.p l.a + own_on joins l.last l.p l.a) × (l.total ≤ l.k + 1)
