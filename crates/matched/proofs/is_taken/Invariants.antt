use Prim.Native.Nat.{◌≤◌}
use mathlib.Core.Path.{◌≡◌}
use Rattle.matched.specs.Work.{is_taken}
use Rattle.matched.proofs.is_taken.Given as goal

-- `matched::is_taken` meets its contract. The loop's invariant: what the atoms up to u give is what all of them give. Assumes nothing.
abbrev pub invariant-loop-u : goal.invariant-loop-u
invariant-loop-u l = (l.u ≤ l.last) × (is_taken l.to l.u l.x ≡ is_taken l.to l.last l.x)

abbrev pub decreases-loop-u : goal.decreases-loop-u
decreases-loop-u l = l.u
