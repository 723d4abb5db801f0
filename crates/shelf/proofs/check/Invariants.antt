use Prim.Native.Nat.{◌-◌}
use mathlib.Core.Path.{◌≡◌}
use Rattle.shelf.specs.Shelf.{shelf_in}
use Rattle.assembly.specs.Placements.{placement_at, fault, placements_reply, shelf_reply}
use Rattle.shelf.proofs.check.Given as goal

-- `shelf::check` meets its contract. The loop's invariant: the reply for the placements that are left is the reply. Assumes nothing.
abbrev pub invariant-loop-k : goal.invariant-loop-k
invariant-loop-k l = shelf_reply (shelf_in l.book) l.xs ≡ placements_reply (fault (shelf_in l.book) (placement_at l.xs)) l.k (l.p - l.k)
