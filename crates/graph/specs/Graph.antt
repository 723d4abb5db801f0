-- Definitions. Molecular graphs, walks, distances and the sums over them: docs/RULES.md, "Graphs and distances". Atoms are numbered from 1.
--
-- | notion                                        | meaning                                                           | the law that matters                             |
-- | `Graph`, `bonded`                             | atoms 1 to n and a list of bonds; whether some bond joins u and v | `bonded_sym` (Bonds)                             |
-- | `Walk`, `Shortest`                            | a walk and its number of bonds; one than which none is shorter    | `concat`, `reverse` (Walk)                       |
-- | `Sound`, `Molecule`                           | bonds end at atoms; and all atoms are linked                      | `connected_molecule` (Connected)                 |
-- | `reaches`, `distance`                         | whether a walk of k bonds leads there; the first such k           | `distance_shortest`, `distance_below` (Distance) |
-- | `connected`                                   | every distance is below the atom count                            | `connected_is_linked` (Connected)                |
-- | `degree`                                      | the ends of bonds at an atom                                      | `degree_is` (assembly)                           |
-- | `total g f`, `vertex g a f`                   | f summed over the distances of all pairs, and from a              | `total-joined` (Rules)                           |
-- | `wiener`, `even_part`, `odd_part`, `polarity` | the indices                                                       | `proved_numbers` (Table)                         |
-- | `vertex_sum`, `even_count`, `count_at` ..     | what is counted from an atom                                      | `grown_first`, `grown_second` (Rules)            |
use Rattle.std.specs.Prelude.{ℕ, zero, suc, ◌+◌, ◌%◌, ◌≤◌, Bool, true, false, ◌&&◌, ◌||◌, cond, List, [], ◌∷◌, ◌≡◌, eqb, ltb}

-- a bond, either end first
pub record Bond : Type 0 where
  pub one : ℕ
  pub two : ℕ

abbrev pub bond : ℕ → ℕ → Bond
bond a b = record { one = a; two = b }

pub record Graph : Type 0 where
  pub atoms : ℕ
  pub bonds : List Bond

-- whether a bond joins u and v
unfoldable pub joins : Bond → ℕ → ℕ → Bool
joins b u v = (eqb b.one u && eqb b.two v) || (eqb b.one v && eqb b.two u)

unfoldable pub any_joins : List Bond → ℕ → ℕ → Bool
any_joins [] u v = false
any_joins (b ∷ bs) u v = joins b u v || any_joins bs u v

unfoldable pub bonded : Graph → ℕ → ℕ → Bool
bonded g u v = any_joins g.bonds u v

-- a walk from i: its end, and how many bonds it takes
pub data Walk (g : Graph) (i : ℕ) : ℕ → ℕ → Type 0 where
  stay : Walk g i i 0
  step : {v w k : ℕ} → Walk g i v k → bonded g v w ≡ true → Walk g i w (suc k)

-- d is the number of bonds of a shortest walk from i to j
pub record Shortest (g : Graph) (i j d : ℕ) : Type 0 where
  pub walk : Walk g i j d
  pub least : (k : ℕ) → Walk g i j k → d ≤ k

-- an atom's number, of n atoms
pub record Within (n v : ℕ) : Type 0 where
  pub low : 1 ≤ v
  pub high : v ≤ n

-- every bond ends at atoms of the graph; a bond is read from either end, so this speaks of both
pub record Sound (g : Graph) : Type 0 where
  pub ends : (v w : ℕ) → bonded g v w ≡ true → Within g.atoms v

-- a sound graph in which a walk leads from each atom to each
pub record Molecule (g : Graph) : Type 0 where
  pub sound : Sound g
  pub linked : (i j : ℕ) → Within g.atoms i → Within g.atoms j → (k : ℕ) × Walk g i j k

-- whether one of the atoms 1 to n passes
unfoldable pub any_atom : ℕ → (ℕ → Bool) → Bool
any_atom zero p = false
any_atom (suc n) p = p (suc n) || any_atom n p

-- whether some walk of k bonds leads from i to j
unfoldable pub reaches : Graph → ℕ → ℕ → ℕ → Bool
reaches g zero i j = eqb i j
reaches g (suc k) i j = any_atom g.atoms (λ v. reaches g k i v && bonded g v j)

-- the first k from `from` on, within `fuel` tries, that passes
unfoldable pub first_from : ℕ → ℕ → (ℕ → Bool) → ℕ
first_from zero from p = from
first_from (suc fuel) from p = elim (p from) [ true ↦ from | false ↦ first_from fuel (suc from) p ]

-- the number of bonds of a shortest walk; the atom count where there is none
unfoldable pub distance : Graph → ℕ → ℕ → ℕ
distance g i j = first_from g.atoms 0 (λ k. reaches g k i j)

-- whether all of the atoms 1 to n pass
unfoldable pub all_atoms : ℕ → (ℕ → Bool) → Bool
all_atoms zero p = true
all_atoms (suc n) p = p (suc n) && all_atoms n p

-- whether every pair of atoms has a path: where there is none, the distance is the atom count
unfoldable pub connected : Graph → Bool
connected g = all_atoms g.atoms (λ i. all_atoms g.atoms (λ j. ltb (distance g i j) g.atoms))

-- how many ends of bonds are at an atom
unfoldable pub degree : List Bond → ℕ → ℕ
degree [] v = 0
degree (b ∷ bs) v = cond (eqb b.one v) 1 0 + cond (eqb b.two v) 1 0 + degree bs v

-- the sum of f over 1 to n
unfoldable pub sum : ℕ → (ℕ → ℕ) → ℕ
sum zero f = 0
sum (suc n) f = sum n f + f (suc n)

-- the sum of f over the pairs i < j of 1 to n
unfoldable pub sum_pairs : ℕ → (ℕ → ℕ → ℕ) → ℕ
sum_pairs zero f = 0
sum_pairs (suc n) f = sum_pairs n f + sum n (λ i. f i (suc n))

-- the sum of f over a list of bonds
unfoldable pub sum_bonds : List Bond → (Bond → ℕ) → ℕ
sum_bonds [] f = 0
sum_bonds (b ∷ bs) f = f b + sum_bonds bs f

abbrev pub is_even : ℕ → Bool
is_even d = eqb (d % 2) 0

-- What is counted of a distance d. d itself, 1 for any:
abbrev pub itself : ℕ → ℕ
itself d = d

abbrev pub each : ℕ → ℕ
each d = 1

-- d if it is even, d if it is odd, else 0
unfoldable pub even_of : ℕ → ℕ
even_of d = cond (is_even d) d 0

unfoldable pub odd_of : ℕ → ℕ
odd_of d = cond (is_even d) 0 d

-- 1 if it is even, 1 if it is odd, 1 if it is k, else 0
unfoldable pub even_one : ℕ → ℕ
even_one d = cond (is_even d) 1 0

unfoldable pub odd_one : ℕ → ℕ
odd_one d = cond (is_even d) 0 1

unfoldable pub is_at : ℕ → ℕ → ℕ
is_at k d = cond (eqb d k) 1 0

-- the sum of f over the distances of all pairs of atoms
unfoldable pub total : Graph → (ℕ → ℕ) → ℕ
total g f = sum_pairs g.atoms (λ i j. f (distance g i j))

-- the sum of f over the distances from atom a to every atom, a itself too
unfoldable pub vertex : Graph → ℕ → (ℕ → ℕ) → ℕ
vertex g a f = sum g.atoms (λ j. f (distance g a j))

abbrev pub wiener : Graph → ℕ
wiener g = total g itself

abbrev pub even_part : Graph → ℕ
even_part g = total g even_of

abbrev pub odd_part : Graph → ℕ
odd_part g = total g odd_of

-- n(k), the number of pairs at distance k; at distance 3 it is the polarity
abbrev pub pairs_at : Graph → ℕ → ℕ
pairs_at g k = total g (is_at k)

abbrev pub polarity : Graph → ℕ
polarity g = pairs_at g 3

-- the vertex sum of an atom, its even and odd parts, and how many atoms lie at an even distance, at an odd one, at distance k
abbrev pub vertex_sum : Graph → ℕ → ℕ
vertex_sum g a = vertex g a itself

abbrev pub vertex_even : Graph → ℕ → ℕ
vertex_even g a = vertex g a even_of

abbrev pub vertex_odd : Graph → ℕ → ℕ
vertex_odd g a = vertex g a odd_of

abbrev pub even_count : Graph → ℕ → ℕ
even_count g a = vertex g a even_one

abbrev pub odd_count : Graph → ℕ → ℕ
odd_count g a = vertex g a odd_one

abbrev pub count_at : Graph → ℕ → ℕ → ℕ
count_at g a k = vertex g a (is_at k)
