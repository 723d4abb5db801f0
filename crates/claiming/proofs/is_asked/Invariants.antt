use Prim.Native.Nat.{◌-◌, ◌≤◌}
use mathlib.Core.Path.{◌≡◌}
use lib.ListN.{length}
use Rattle.claiming.specs.Asked.{asks, asks_from}
use Rattle.claiming.proofs.is_asked.Given as goal

-- `claiming::is_asked` meets its contract. The loop's invariant: what is asked for from here on is what is asked for in all.
abbrev pub invariant-loop-at : goal.invariant-loop-at
invariant-loop-at l = (asks l.field l.claims ≡ asks_from (length l.claims) l.field l.claims l.at) × (l.at ≤ length l.claims)

abbrev pub decreases-loop-at : goal.decreases-loop-at
decreases-loop-at l = length l.claims - l.at
