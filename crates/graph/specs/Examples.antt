-- Laws. The definitions compute: naphthalene in document 001's numbering, and what is counted from an atom of a ring of 6.
use Rattle.std.specs.Prelude.{ℕ, List, [], ◌∷◌, ◌≡◌, refl}
use Rattle.graph.specs.Graph.{Graph, bond, joins, any_joins, bonded, any_atom, reaches, first_from, distance, sum, sum_pairs, even_of, odd_of, even_one, odd_one, is_at, total, vertex, wiener, even_part, odd_part, polarity, pairs_at, vertex_sum, vertex_even, vertex_odd, even_count, odd_count, count_at}
use Rattle.graph.specs.Farthest.{most, most_pairs, farthest, largest}
use Rattle.graph.specs.Table.{ring6}

pub naphthalene : Graph
naphthalene = record {
  atoms = 10;
  bonds = bond 1 2 ∷ bond 1 10 ∷ bond 2 3 ∷ bond 3 4 ∷ bond 3 8 ∷ bond 4 5 ∷ bond 5 6 ∷ bond 6 7 ∷ bond 7 8 ∷ bond 8 9 ∷ bond 9 10 ∷ [];
}

-- W, even part, odd part and polarity; and n(1) to n(5)
wholes : Graph → List ℕ
unfolding joins any_joins bonded any_atom reaches first_from distance sum sum_pairs even_of odd_of is_at total
wholes g = wiener g ∷ even_part g ∷ odd_part g ∷ polarity g ∷ pairs_at g 1 ∷ pairs_at g 2 ∷ pairs_at g 3 ∷ pairs_at g 4 ∷ pairs_at g 5 ∷ []

-- the vertex sum, its even and odd parts, the even and odd counts, f(0), f(1) and f(2)
around : Graph → ℕ → List ℕ
unfolding joins any_joins bonded any_atom reaches first_from distance sum even_of odd_of even_one odd_one is_at vertex
around g a =
    vertex_sum g a ∷ vertex_even g a ∷ vertex_odd g a ∷ even_count g a ∷ odd_count g a ∷ count_at g a 0 ∷ count_at g a 1 ∷ count_at g a 2 ∷ []

of_naphthalene : wholes naphthalene ≡ 109 ∷ 52 ∷ 57 ∷ 12 ∷ 11 ∷ 14 ∷ 12 ∷ 6 ∷ 2 ∷ []
unfolding wholes naphthalene
of_naphthalene = refl

-- the atom itself is one of the three at an even distance
around_ring : around ring6 2 ≡ 9 ∷ 4 ∷ 5 ∷ 3 ∷ 3 ∷ 1 ∷ 2 ∷ 2 ∷ []
unfolding around ring6
around_ring = refl

-- from an atom in the middle of naphthalene the farthest is nearer than the two that are farthest from each other; one atom alone has 0
farthest_in : farthest naphthalene 3 ∷ largest naphthalene ∷ largest (record { atoms = 1; bonds = [] }) ∷ [] ≡ 3 ∷ 5 ∷ 0 ∷ []
unfolding naphthalene joins any_joins bonded any_atom reaches first_from distance most most_pairs farthest largest
farthest_in = refl
