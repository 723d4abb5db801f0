use Prim.Native.Nat.{◌+◌, ◌≤◌}
use mathlib.Core.Path.{◌≡◌}
use lib.ListN.{length, drop}
use Rattle.catalogue.proofs.Turns.{ends_in}
use Rattle.catalogue.proofs.candidates.ends_in.Given as goal

-- `catalogue::candidates::ends_in` meets its contract. The loop's invariant: the total and the ends among the bytes that are left are all ends. Assumes nothing.
abbrev pub invariant-loop-i : goal.invariant-loop-i
invariant-loop-i l = (ends_in l.bonds l.a ≡ l.total + ends_in (drop l.i l.bonds) l.a) × (l.total ≤ l.i) × (l.i ≤ length l.bonds)
