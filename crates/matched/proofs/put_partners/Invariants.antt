use Prim.Native.Nat.{◌≤◌}
use mathlib.Core.Path.{◌≡◌}
use lib.ListN.{length, take}
use Rattle.deck.specs.Placed.{deck_of}
use Rattle.matched.specs.Matched.{partners}
use Rattle.matched.proofs.put_partners.Given as goal

-- `matched::put_partners` meets its contract. The loop's invariant: the partners of the atoms before i are put. Assumes nothing.
abbrev pub invariant-loop-i : goal.invariant-loop-i
invariant-loop-i l = (l.i ≤ length l.to) × (length l.to ≡ length l.initial.to) × (take l.i l.to ≡ partners l.d (deck_of l.deck) l.matching l.i)
