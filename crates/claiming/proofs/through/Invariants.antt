use Prim.Native.Nat.{◌-◌, ◌≤◌}
use mathlib.Core.Bool.{false}
use mathlib.Core.Path.{◌≡◌}
use lib.ListN.{length}
use Rattle.claiming.specs.Work.{gone_through}
use Rattle.claiming.proofs.through.Given as goal

-- `claiming::through` meets its contract. The loop's invariant: what is met from here on, after what was met, is what is met in all.
abbrev pub invariant-loop-at : goal.invariant-loop-at
invariant-loop-at l = (gone_through l.own l.above l.claims 0 0 0 false ≡ gone_through l.own l.above l.claims l.at l.k l.wrong l.sets) × (l.k ≤ l.at) × (l.at ≤ length l.claims)

abbrev pub decreases-loop-at : goal.decreases-loop-at
decreases-loop-at l = length l.claims - l.at
