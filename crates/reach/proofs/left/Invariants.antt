use Prim.Native.Nat.{◌+◌, ◌-◌, ◌*◌, ◌≤◌}
use lib.ListN.{get_or}
use Rattle.block.specs.Lent.{EntriesFilled}
use Rattle.reach.proofs.left.Given as goal

abbrev pub invariant-loop-i : goal.invariant-loop-i
invariant-loop-i l = (l.i ≤ l.n) × EntriesFilled l.i (λ p. l.n * l.levels - (l.own + get_or l.initial.sums p 0)) l.initial.sums l.sums
