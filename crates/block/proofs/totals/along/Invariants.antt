use Prim.Native.Nat.{◌≤◌}
use Rattle.block.specs.Tally.{Tallied}
use Rattle.block.proofs.totals.along.Given as goal

abbrev pub invariant-loop-j : goal.invariant-loop-j
invariant-loop-j l =
    (l.j ≤ l.k) × Tallied l.row l.j (record { even = l.even; odd = l.odd; evens = l.evens; odds = l.odds; ones = l.ones; twos = l.twos })
