-- Laws. Worked examples, computed: two atoms that are joined; and a summary that no block has. Assumes nothing.
use Rattle.std.specs.Prelude.{ℕ, List, [], ◌∷◌, ◌++◌, ◌≡◌, refl}
use Rattle.std.specs.Int.Count.{ones}
use Rattle.graph.specs.Graph.{Graph, bond, distance, first_from, reaches, any_atom, bonded, any_joins, joins, degree, sum, sum_pairs, even_of, odd_of, even_one, odd_one, is_at, total, vertex}
use Rattle.graph.specs.Farthest.{most, most_pairs, farthest, largest}
use Rattle.graph.specs.Sets.{has}
use Rattle.half.specs.Half.{table}
use Rattle.block.specs.Index.{indices_of}
use Rattle.records.specs.Bytes.{little, little_bytes}
use Rattle.sighted.specs.Sighted.{sets_in, leads, farther, reached, is_new, told, counts_in, row_in, seen_in, seen_of, steps_in}
use Rattle.summary.specs.Layout.{stored_number, seen_at, vertex_at, stored_degree, far_at}
use Rattle.summary.specs.Summary.{head_of, atoms_from, summary_of}

abbrev pub two : Graph
two = record { atoms = 2; bonds = bond 1 2 ∷ [] }

-- number 7, two atoms, largest distance 1, even part 0, odd part 1, polarity 0
abbrev head : List ℕ
head = 7 ∷ 0 ∷ 2 ∷ 1 ∷ 0 ∷ 0 ∷ 0 ∷ 0 ∷ 1 ∷ 0 ∷ 0 ∷ 0 ∷ 0 ∷ 0 ∷ 0 ∷ 0 ∷ []

-- the set of atom 1 has the other, that of atom 2 too
abbrev sets : List ℕ
sets = 2 ∷ 0 ∷ 0 ∷ 0 ∷ 0 ∷ 0 ∷ 0 ∷ 0 ∷ 1 ∷ 0 ∷ 0 ∷ 0 ∷ 0 ∷ 0 ∷ 0 ∷ 0 ∷ []

pub bytes : summary_of 7 two ≡ head ++ sets
unfolding summary_of head_of little_bytes atoms_from indices_of distance first_from reaches any_atom bonded any_joins joins degree sum sum_pairs even_of odd_of even_one odd_one is_at total vertex most most_pairs farthest largest
bytes = refl

-- whatever stands behind it
abbrev place : List ℕ
place = head ++ (sets ++ (9 ∷ 9 ∷ 9 ∷ []))

pub counts : (vertex_at place 1 ≡ record { sum = 1; even = 0; odd = 1; evens = 1; odds = 1; ones = 1; twos = 0; farthest = 1 }) × ((vertex_at head 1).evens ≡ 1) × ((vertex_at [] 1).evens ≡ 0)
unfolding seen_at seen_of seen_in counts_in told is_new reached farther leads any_atom has sum most even_of odd_of even_one odd_one is_at sets_in table little
counts = (refl, refl, refl)

pub ends : (stored_degree place 2 ≡ 1) × (stored_degree place 65 ≡ 0) × (stored_degree head 1 ≡ 0)
unfolding stored_degree little ones
ends = (refl, refl, refl)

pub says : (stored_number place ≡ 7) × (far_at place 2 1 ≡ 1) × (far_at place 1 2 ≡ 1) × (far_at place 2 2 ≡ 0) × (far_at place 2 65 ≡ 0) × (far_at head 2 1 ≡ 0)
unfolding seen_at seen_of seen_in row_in steps_in told is_new reached farther leads any_atom has sum sets_in table little
says = (refl, refl, refl, refl, refl, refl)

-- of three atoms one way only, 1 to 2 and 2 to 3: nothing leads back
abbrev one_way : List ℕ
one_way = 7 ∷ 0 ∷ 3 ∷ 0 ∷ 0 ∷ 0 ∷ 0 ∷ 0 ∷ 0 ∷ 0 ∷ 0 ∷ 0 ∷ 0 ∷ 0 ∷ 0 ∷ 0 ∷ 2 ∷ 0 ∷ 0 ∷ 0 ∷ 0 ∷ 0 ∷ 0 ∷ 0 ∷ 4 ∷ []

pub one_way_lem : (far_at one_way 1 3 ≡ 2) × (far_at one_way 3 1 ≡ 0) × ((vertex_at one_way 1).sum ≡ 3)
unfolding seen_at seen_of seen_in counts_in row_in steps_in told is_new reached farther leads any_atom has sum most even_of odd_of even_one odd_one is_at sets_in table little
one_way_lem = (refl, refl, refl)
