-- Definitions. Two parts joined by a bond, for any numbers: of those that no assembly comes near the lowest binary digits count.
use Rattle.std.specs.Prelude.{ℕ, ◌+◌, ◌%◌}
use Rattle.joining.specs.Parts.{grow, join_six}
use Rattle.block.specs.declared.Indices.{Indices}
use Rattle.block.specs.declared.Vertex.{Vertex}

-- the largest number that is counted from an atom, and the largest field: 2^29 - 1 and 2^60 - 1
abbrev pub most_counted : ℕ
most_counted = 536870911

abbrev pub most_field : ℕ
most_field = 1152921504606846975

abbrev pub cut_counts : Vertex → Vertex
cut_counts v = record {
  sum = v.sum % (most_counted + 1);
  even = v.even % (most_counted + 1);
  odd = v.odd % (most_counted + 1);
  evens = v.evens % (most_counted + 1);
  odds = v.odds % (most_counted + 1);
  ones = v.ones % (most_counted + 1);
  twos = v.twos % (most_counted + 1);
  farthest = v.farthest % (most_counted + 1);
}

abbrev pub cut_fields : Indices → Indices
cut_fields x = record {
  atoms = x.atoms % (most_field + 1);
  w = x.w % (most_field + 1);
  even = x.even % (most_field + 1);
  odd = x.odd % (most_field + 1);
  polarity = x.polarity % (most_field + 1);
  largest = x.largest % (most_field + 1);
}

-- what an atom counts, and the six fields, once two are joined
unfoldable pub grown_of : Vertex → ℕ → Vertex → Vertex
grown_of v d o = grow (cut_counts v) (d % (most_counted + 1)) (cut_counts o)

unfoldable pub joined_of : Indices → Indices → Vertex → Vertex → Indices
joined_of x y c o = join_six (cut_fields x) (cut_fields y) (cut_counts c) (cut_counts o)
