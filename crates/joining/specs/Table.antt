-- Work. A table: an atom count and a number for each two atoms, whatever it is. Two tables are joined as molecules are: across the joining bond the
-- number is what leads to it, 1, and what leads on from it.
use Rattle.std.specs.Prelude.{ℕ, zero, suc, ◌+◌, ◌-◌, true, false, ◌≡◌, leb}
use Rattle.graph.specs.Graph.{Graph, Within, distance, sum, sum_pairs, itself, even_of, odd_of, even_one, odd_one, is_at}
use Rattle.graph.specs.Farthest.{most, most_pairs}
use Rattle.graph.specs.Assembly.{Join}
use Rattle.joining.specs.Parts.{Part}
use Rattle.block.specs.declared.Indices.{Indices}
use Rattle.block.specs.declared.Vertex.{Vertex}

pub record Table : Type 0 where
  pub atoms : ℕ
  pub far : ℕ → ℕ → ℕ

-- the distances of a graph
abbrev pub table_of : Graph → Table
table_of g = record { atoms = g.atoms; far = distance g }

-- the sum of f over all pairs of atoms, and over every atom seen from atom a, a itself too; and the largest of each
unfoldable pub total_by : Table → (ℕ → ℕ) → ℕ
total_by t f = sum_pairs t.atoms (λ i j. f (t.far i j))

unfoldable pub seen_by : Table → ℕ → (ℕ → ℕ) → ℕ
seen_by t a f = sum t.atoms (λ j. f (t.far a j))

unfoldable pub largest_by : Table → ℕ
largest_by t = most_pairs t.atoms t.far

unfoldable pub farthest_by : Table → ℕ → ℕ
farthest_by t a = most t.atoms (t.far a)

-- the six fields; what is counted from an atom, p being what the sum of f over its numbers comes to
unfoldable pub six_of : Table → Indices
six_of t = record {
  atoms = t.atoms;
  w = total_by t itself;
  even = total_by t even_of;
  odd = total_by t odd_of;
  polarity = total_by t (is_at 3);
  largest = largest_by t;
}

abbrev pub sight_by : ((ℕ → ℕ) → ℕ) → ℕ → Vertex
sight_by p far = record {
  sum = p itself;
  even = p even_of;
  odd = p odd_of;
  evens = p even_one;
  odds = p odd_one;
  ones = p (is_at 1);
  twos = p (is_at 2);
  farthest = far;
}

abbrev pub sight_of : Table → ℕ → Vertex
sight_of t a = sight_by (seen_by t a) (farthest_by t a)

-- s and t joined by a bond between atom a of s and atom b of t: t's atoms follow those of s
unfoldable pub far_joined : Table → Table → ℕ → ℕ → ℕ → ℕ → ℕ
far_joined s t a b i j =
    elim (leb i s.atoms) [
      | true ↦ elim (leb j s.atoms) [ true ↦ s.far i j | false ↦ s.far a i + 1 + t.far b (j - s.atoms) ]
      | false ↦ elim (leb j s.atoms) [ true ↦ t.far b (i - s.atoms) + 1 + s.far a j | false ↦ t.far (i - s.atoms) (j - s.atoms) ]
    ]

unfoldable pub joined_by : Table → Table → ℕ → ℕ → Table
joined_by s t a b = record { atoms = s.atoms + t.atoms; far = far_joined s t a b }

-- An assembly of tables, as of blocks: how many atoms stand before an index, and the table of all placements up to an index.
unfoldable pub start_by : (ℕ → Table) → ℕ → ℕ
start_by tables zero = 0
start_by tables (suc k) = start_by tables k + (tables k).atoms

abbrev pub site_by : (ℕ → Table) → (ℕ → Join) → ℕ → ℕ
site_by tables joins k = start_by tables ((joins k).parent - 1) + (joins k).site

unfoldable pub written_by : (ℕ → Table) → (ℕ → Join) → ℕ → Table
written_by tables joins zero = tables 0
written_by tables joins (suc k) = joined_by (written_by tables joins k) (tables (suc k)) (site_by tables joins (suc k)) (joins (suc k)).own

-- what is kept is what the table says, and just the atom itself is at 0
pub record Told (p : Part) (t : Table) : Type 0 where
  pub six : p.six ≡ six_of t
  pub sight : (i : ℕ) → Within t.atoms i → p.sight i ≡ sight_of t i
  pub far : (i j : ℕ) → Within t.atoms i → Within t.atoms j → p.far i j ≡ t.far i j
  pub alone : (i : ℕ) → Within t.atoms i → seen_by t i (is_at 0) ≡ 1

-- the placement at index k is joined to an earlier one, at atoms that exist
pub record Fits (size : ℕ → ℕ) (joins : ℕ → Join) (k : ℕ) : Type 0 where
  pub parent : Within k (joins k).parent
  pub site : Within (size ((joins k).parent - 1)) (joins k).site
  pub own : Within (size k) (joins k).own
