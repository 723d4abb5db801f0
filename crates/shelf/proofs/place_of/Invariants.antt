use Prim.Native.Nat.{◌-◌}
use mathlib.Core.Path.{◌≡◌}
use Rattle.shelf.specs.Shelf.{places_in, place_from, place_of}
use Rattle.shelf.proofs.place_of.Given as goal

-- `shelf::place_of` meets its contract. The loop's invariant: what is found among the places that are left is what is found. Assumes nothing.
abbrev pub invariant-loop-i : goal.invariant-loop-i
invariant-loop-i l = (l.n ≡ places_in l.book) × (place_of l.book l.number ≡ place_from l.book l.number l.i (l.n - l.i))
