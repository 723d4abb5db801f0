use Prim.Native.Nat.{◌+◌, ◌-◌, ◌≤◌}
use mathlib.Core.Path.{◌≡◌}
use Rattle.matched.specs.Matched.{is_lost, first_atom}
use Rattle.matched.proofs.first_lost.Given as goal

-- `matched::first_lost` meets its contract. The loop's invariant: what is left of the atoms gives what all of them give. Assumes nothing.
abbrev pub invariant-loop-v : goal.invariant-loop-v
invariant-loop-v l = (1 ≤ l.v) × (l.v ≤ l.n + 1) × (first_atom (l.n + 1 - l.v) l.v (is_lost l.to) ≡ first_atom l.n 1 (is_lost l.to))
