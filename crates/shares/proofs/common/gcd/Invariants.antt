use Prim.Native.Nat.{ℕ}
use Rattle.graph.specs.Notions.{Gcd}
use Rattle.shares.proofs.common.gcd.Given as goal

-- `gcd` meets its contract: what divides the two numbers at hand are the divisors of a and b.
abbrev pub invariant-loop-y : goal.invariant-loop-y
invariant-loop-y l = (d : ℕ) → Gcd l.x l.y d → Gcd l.initial.x l.initial.y d

abbrev pub decreases-loop-y : goal.decreases-loop-y
decreases-loop-y l = l.y
