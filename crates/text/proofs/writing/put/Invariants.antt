use Prim.Native.Nat.{◌+◌, ◌-◌, ◌≤◌}
use mathlib.Core.Path.{◌≡◌}
use lib.ListN.{length, take}
use lib.Seq.{sets}
use Rattle.text.proofs.writing.put.Given as goal

-- `text::put` meets its contract. The loop's invariant: the word's first i bytes are put, and k is the place past them.
abbrev pub invariant-loop-i : goal.invariant-loop-i
invariant-loop-i l = (l.i ≤ length l.word) × (l.i ≤ length l.initial.out - l.at) × (l.k ≡ l.at + l.i) × (length l.out ≡ length l.initial.out) × (l.out ≡ sets l.initial.out l.at (take l.i l.word))

abbrev pub decreases-loop-i : goal.decreases-loop-i
decreases-loop-i l = length l.word - l.i
