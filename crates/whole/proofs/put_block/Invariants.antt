use Prim.Native.Nat.{◌+◌, ◌-◌, ◌≤◌}
use mathlib.Core.Path.{◌≡◌}
use lib.ListN.{length, drop}
use lib.Seq.{sets}
use Rattle.whole.specs.Work.{block_numbers}
use Rattle.whole.proofs.put_block.Given as goal

-- `whole::put_block` meets its contract. The loop's invariant: what is left of the bonds, put from here on, gives what all of them give.
abbrev pub invariant-loop-i : goal.invariant-loop-i
invariant-loop-i l = (l.i ≤ length l.bonds) × (length l.out ≡ length l.initial.out) × (sets l.out (l.at + l.i) (block_numbers l.start (drop l.i l.bonds)) ≡ sets l.initial.out l.at (block_numbers l.start l.bonds))

abbrev pub decreases-loop-i : goal.decreases-loop-i
decreases-loop-i l = length l.bonds - l.i
