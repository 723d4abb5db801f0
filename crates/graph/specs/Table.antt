-- Laws. The rules' table of proved numbers, in one theorem. Assumes nothing.
use Rattle.std.specs.Prelude.{ℕ, List, [], ◌∷◌, ◌≡◌, refl}
use Rattle.graph.specs.Graph.{Graph, bond, joins, any_joins, bonded, any_atom, reaches, first_from, distance, sum, sum_pairs, even_of, odd_of, is_at, total, wiener, even_part, odd_part, polarity}
use Rattle.graph.specs.Assembly.{shifted, joined}

-- a graph, and its W, even part, odd part and polarity
pub record Row : Type 0 where
  pub graph : Graph
  pub w : ℕ
  pub even : ℕ
  pub odd : ℕ
  pub three : ℕ

unfoldable pub row : Graph → ℕ → ℕ → ℕ → ℕ → Row
row g w e o p = record { graph = g; w = w; even = e; odd = o; three = p }

unfoldable pub atom : Graph
atom = record { atoms = 1; bonds = [] }

unfoldable pub path2 : Graph
path2 = record { atoms = 2; bonds = bond 1 2 ∷ [] }

unfoldable pub path4 : Graph
path4 = record { atoms = 4; bonds = bond 1 2 ∷ bond 2 3 ∷ bond 3 4 ∷ [] }

unfoldable pub star4 : Graph
star4 = record { atoms = 4; bonds = bond 1 2 ∷ bond 1 3 ∷ bond 1 4 ∷ [] }

unfoldable pub ring3 : Graph
ring3 = record { atoms = 3; bonds = bond 1 2 ∷ bond 2 3 ∷ bond 3 1 ∷ [] }

unfoldable pub ring6 : Graph
ring6 = record { atoms = 6; bonds = bond 1 2 ∷ bond 2 3 ∷ bond 3 4 ∷ bond 4 5 ∷ bond 5 6 ∷ bond 6 1 ∷ [] }

unfoldable pub table : List Row
table =
    row atom 0 0 0 0
    ∷ row path2 1 0 1 0
    ∷ row path4 10 4 6 1
    ∷ row star4 9 6 3 0
    ∷ row ring3 3 0 3 0
    ∷ row ring6 27 12 15 3
    ∷ row (joined ring6 atom 1 1) 42 20 22 5
    ∷ row (joined ring6 ring6 1 1) 198 96 102 14
    ∷ row (joined (joined (joined (joined atom atom 1 1) atom 1 1) atom 1 1) atom 1 1) 16 12 4 0
    ∷ row (joined (joined path2 atom 1 1) atom 2 1) 10 4 6 1
    ∷ []

abbrev pub Right : List Row → Type 0
Right [] = Unit {0}
Right (r ∷ rs) =
    (wiener r.graph ≡ r.w) × (even_part r.graph ≡ r.even) × (odd_part r.graph ≡ r.odd) × (polarity r.graph ≡ r.three) × Right rs

pub proved_numbers : Right table
unfolding table row atom path2 path4 star4 ring3 ring6 shifted joined joins any_joins bonded any_atom reaches first_from distance sum sum_pairs even_of odd_of is_at total
proved_numbers = (
  refl,
  refl,
  refl,
  refl,
  (
    refl,
    refl,
    refl,
    refl,
    (
      refl,
      refl,
      refl,
      refl,
      (
        refl,
        refl,
        refl,
        refl,
        (
          refl,
          refl,
          refl,
          refl,
          (refl, refl, refl, refl, (refl, refl, refl, refl, (refl, refl, refl, refl, (refl, refl, refl, refl, (refl, refl, refl, refl, tt))))),
        ),
      ),
    ),
  ),
)
