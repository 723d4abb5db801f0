-- Laws. Worked examples: a ring of 4 atoms, and naphthalene in document 001's numbering with its bonds in the order of table 2. Assumes nothing.
use Rattle.std.specs.Prelude.{ℕ, List, [], ◌∷◌, map, ◌≡◌, refl}
use Rattle.graph.specs.Graph.{Graph, bond, joins, any_joins, bonded, any_atom, reaches, first_from, distance, sum, sum_pairs, even_of, odd_of, is_at, total, wiener, even_part, odd_part, polarity}
use Rattle.graph.specs.Paths.{gather, walks, shortest_paths, uses, passing_paths, path_count, paths_using, lcm, lcm_over, lcm_pairs, denominator, share}

-- the numbers of a graph: W, even part, odd part, polarity, D and the shares of its bonds
pub record Numbers : Type 0 where
  pub w : ℕ
  pub even : ℕ
  pub odd : ℕ
  pub three : ℕ
  pub d : ℕ
  pub shares : List ℕ

unfoldable pub numbers : Graph → Numbers
unfolding joins any_joins bonded any_atom reaches first_from distance sum sum_pairs even_of odd_of is_at total gather walks shortest_paths uses passing_paths path_count paths_using lcm lcm_over lcm_pairs denominator share
numbers g = record {
  w = wiener g;
  even = even_part g;
  odd = odd_part g;
  three = polarity g;
  d = denominator g;
  shares = map (share g) g.bonds;
}

unfoldable pub ring4 : Graph
ring4 = record { atoms = 4; bonds = bond 1 2 ∷ bond 2 3 ∷ bond 3 4 ∷ bond 4 1 ∷ [] }

unfoldable pub naphthalene : Graph
naphthalene = record {
  atoms = 10;
  bonds = bond 1 10 ∷ bond 1 2 ∷ bond 2 3 ∷ bond 3 8 ∷ bond 3 4 ∷ bond 4 5 ∷ bond 5 6 ∷ bond 6 7 ∷ bond 7 8 ∷ bond 8 9 ∷ bond 9 10 ∷ [];
}

pub ring4-numbers : numbers ring4 ≡ record { w = 8; even = 4; odd = 4; three = 0; d = 2; shares = 4 ∷ 4 ∷ 4 ∷ 4 ∷ [] }
unfolding numbers ring4
ring4-numbers = refl

pub naphthalene-numbers : numbers naphthalene ≡ record {
  w = 109;
  even = 52;
  odd = 57;
  three = 12;
  d = 6;
  shares = 37 ∷ 51 ∷ 75 ∷ 76 ∷ 75 ∷ 51 ∷ 37 ∷ 51 ∷ 75 ∷ 75 ∷ 51 ∷ [];
}
unfolding numbers naphthalene
naphthalene-numbers = refl
