-- Work. The joined rings of the rules by tables and by what is kept of them, computed; and tables that no molecule has.
use Rattle.std.specs.Prelude.{ℕ, ◌≡◌, refl, cond, [], ◌∷◌, eqb}
use Rattle.graph.specs.Graph.{Graph, bond, distance, first_from, reaches, any_atom, bonded, any_joins, joins, sum, sum_pairs, even_of, odd_of, even_one, odd_one, is_at, polarity}
use Rattle.graph.specs.Farthest.{most, most_pairs}
use Rattle.graph.specs.Assembly.{Join}
use Rattle.joining.specs.Table.{Table, table_of, total_by, seen_by, largest_by, farthest_by, six_of, sight_of, far_joined, joined_by, start_by, written_by}
use Rattle.joining.specs.Parts.{Part, even_beyond, odd_beyond, beyond, both, grow, even_across, odd_across, join_six, far_in, sight_in, six_in}
use Rattle.block.specs.declared.Indices.{Indices}

-- what is kept of a table that is told
abbrev pub part_of : Table → Part
part_of t = record { six = six_of t; sight = sight_of t; far = t.far }

abbrev ring : Graph
ring = record { atoms = 6; bonds = bond 1 2 ∷ bond 2 3 ∷ bond 3 4 ∷ bond 4 5 ∷ bond 5 6 ∷ bond 6 1 ∷ [] }

abbrev six : ℕ → ℕ → ℕ → ℕ → ℕ → ℕ → Indices
six a w e o p l = record { atoms = a; w = w; even = e; odd = o; polarity = p; largest = l }

abbrev rings : ℕ → Table
rings k = table_of ring

abbrev onto : ℕ → Join
onto k = record { parent = 1; site = 1; own = 1 }

two_rings : six_of (written_by rings onto 1) ≡ six 12 198 96 102 14 7
unfolding six_of total_by largest_by most most_pairs far_joined joined_by start_by written_by distance first_from reaches any_atom bonded any_joins joins sum sum_pairs even_of odd_of is_at
two_rings = refl

two_rings_kept : six_in (λ k. part_of (rings k)) onto 1 ≡ six 12 198 96 102 14 7
unfolding six_of total_by largest_by most most_pairs distance first_from reaches any_atom bonded any_joins joins sum sum_pairs even_of odd_of even_one odd_one is_at seen_by farthest_by six_in sight_in far_in join_six even_across odd_across
two_rings_kept = refl

-- two atoms 200 apart, three times in a row: no molecule has them
abbrev wide : Table
wide = record { atoms = 2; far = λ i j. cond (eqb i j) 0 200 }

abbrev chain : ℕ → Join
chain k = record { parent = k; site = 2; own = 1 }

far_apart : six_of (written_by (λ k. wide) chain 2) ≡ six_in (λ k. part_of wide) chain 2
unfolding six_of total_by largest_by most most_pairs far_joined joined_by start_by written_by sum sum_pairs even_of odd_of even_one odd_one is_at seen_by farthest_by six_in sight_in far_in join_six even_across odd_across grow both beyond even_beyond odd_beyond
far_apart = refl
