use Prim.Native.Nat.{◌≤◌}
use mathlib.Core.Path.{◌≡◌}
use lib.ListN.{length}
use lib.Seq.{paste}
use Rattle.calls.proofs.put.Given as goal

-- `calls::put` meets its contract. The loop's invariant: the first i entries are the numbers', the later ones stay.
abbrev pub invariant-loop-i : goal.invariant-loop-i
invariant-loop-i l = (l.i ≤ length l.numbers) × (length l.out ≡ length l.initial.out) × (l.out ≡ paste l.initial.out 0 l.numbers l.i)
