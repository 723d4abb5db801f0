use Prim.Native.Nat.{ℕ, ◌≤◌}
use mathlib.Core.Path.{◌≡◌}
use lib.ListN.{length, take}
use Rattle.graph.specs.Graph.{Graph}
use Rattle.assembly.specs.Book.{book_of}
use Rattle.catalogue.specs.Library.{is_full_in, candidates_fault}
use Rattle.catalogue.proofs.candidates.candidates_fault.Given as goal

-- `catalogue::candidates::candidates_fault` meets its contract. Assumes nothing.
-- the core and the atom, of which the loop keeps only whether it is full
abbrev pub invariant-loop-left : goal.invariant-loop-left
invariant-loop-left l =
    (l.p ≤ length l.xs) × ((g : Graph) (a : ℕ) → l.full ≡ is_full_in g a → candidates_fault (book_of l.d (take l.count l.blocks)) g l.xs a l.many l.first ≡ candidates_fault (book_of l.d (take l.count l.blocks)) g l.xs a l.left l.p)

abbrev pub decreases-loop-left : goal.decreases-loop-left
decreases-loop-left l = l.left
