-- Definitions. A block: what its bytes say, and its refusals 1 to 7 in the order of docs/RULES.md. A place is the bond's number from 1, or 0.
use Rattle.std.specs.Prelude.{ℕ, suc, ◌*◌, ◌%◌, ◌||◌, not, cond, List, [], ◌∷◌, eqb, leb, ltb, length, Result}
use Rattle.graph.specs.Graph.{Graph, Bond, bond, any_joins, connected, degree}
pub use Rattle.half.specs.Half.{most_atoms}
use Rattle.reply.specs.declared.Refusal.{Refusal}
use Rattle.reply.specs.Read.{Read, read, ◌then◌, refuse_if, refuse_for, is_outside, as_result}
use Rattle.reply.specs.declared.Counts.{Counts}

-- the most bonds of an atom, and the most bytes that the bonds take: two bytes a bond, which is one of the bonds of two atoms
abbrev pub limit : ℕ
limit = 6

abbrev pub most_bytes : ℕ
most_bytes = most_atoms * limit

-- the bonds that the bytes say
unfoldable pub bonds_of : List ℕ → List Bond
bonds_of [] = []
bonds_of (a ∷ []) = []
bonds_of (a ∷ (b ∷ xs)) = bond a b ∷ bonds_of xs

abbrev pub graph_of : ℕ → List ℕ → Graph
graph_of n xs = record { atoms = n; bonds = bonds_of xs }

-- the refusal number of a bond that is listed after others, or 0
unfoldable pub bond_fault : ℕ → List Bond → Bond → ℕ
bond_fault n before b =
    cond (is_outside n b.one || is_outside n b.two) 3
    (cond (eqb b.one b.two) 4
    (cond (any_joins before b.one b.two) 5
    (cond (leb limit (degree before b.one) || leb limit (degree before b.two)) 6 0)))

-- the bonds one by one, each with its number from 1; `before` are those that passed, the last first
unfoldable pub bonds_reply : ℕ → List Bond → List Bond → Read (Unit {0})
bonds_reply n before [] = read tt
bonds_reply n before (b ∷ bs) = refuse_for (bond_fault n before b) (suc (length before)) then λ _. bonds_reply n (b ∷ before) bs

unfoldable pub block_reply : ℕ → List ℕ → Read (Unit {0})
block_reply n xs =
    refuse_if (is_outside most_atoms n) 1 0 then λ _.
    refuse_if (not (eqb (length xs % 2) 0) || ltb most_bytes (length xs)) 2 0 then λ _.
    bonds_reply n [] (bonds_of xs) then λ _.
    refuse_if (not (connected (graph_of n xs))) 7 0

-- the same without the last
unfoldable pub drawn_reply : ℕ → List ℕ → Read (Unit {0})
drawn_reply n xs =
    refuse_if (is_outside most_atoms n) 1 0 then λ _.
    refuse_if (not (eqb (length xs % 2) 0) || ltb most_bytes (length xs)) 2 0 then λ _.
    bonds_reply n [] (bonds_of xs)

-- how many atoms and bonds a molecule has, and how the code says them
abbrev pub counts_of : Graph → Counts
counts_of g = record { atoms = g.atoms; bonds = length g.bonds }

abbrev pub said_molecule : Read Graph → Result Counts Refusal
said_molecule answer = as_result (answer then λ g. read (counts_of g))
