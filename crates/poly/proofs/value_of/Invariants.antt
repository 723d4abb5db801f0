use Prim.Native.Nat.{◌≤◌}
use mathlib.Core.Path.{◌≡◌}
use Rattle.poly.specs.Poly.{pairs_counted, of_parity, horner, most_distance, value}
use Rattle.poly.proofs.value_of.Given as goal

abbrev pub invariant-loop-k : goal.invariant-loop-k
invariant-loop-k l = (l.k ≤ most_distance) × (horner (of_parity l.parity (pairs_counted l.counts)) l.x l.k l.v ≡ value l.parity (pairs_counted l.counts) l.x)

abbrev pub decreases-loop-k : goal.decreases-loop-k
decreases-loop-k l = l.k
