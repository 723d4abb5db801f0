-- Laws. Bounds of what is counted on a molecule, by its atom count, and of the atom count of an assembly. Assumes nothing.
use Rattle.std.specs.Prelude.{ℕ, zero, suc, ◌*◌, ◌≤◌, Bool, true, false, cond, ◌≡◌, refl, eqb}
use Rattle.std.proofs.Common.{arith}
use Rattle.graph.specs.Graph.{Graph, Within, Molecule, distance, sum_pairs, is_even, itself, even_of, odd_of, even_one, odd_one, is_at, total, vertex, vertex_sum}
use Rattle.graph.specs.Assembly.{Join, joined, written}
use Rattle.graph.specs.Distance.{distance_below, distance_zero}
use Rattle.graph.specs.Sums.{sum_at, sum_le}

-- what is counted of a distance d is at most d + 1
pub record Tame (f : ℕ → ℕ) : Type 0 where
  pub tame : (d : ℕ) → f d ≤ suc d

chosen : (t : Bool) (d a b : ℕ) → a ≤ suc d → b ≤ suc d → cond t a b ≤ suc d
chosen true d a b h k = h
chosen false d a b h k = k

pub tame_itself : Tame itself
tame_itself = record { tame = λ d. omega arith }

pub tame_even : Tame even_of
unfolding even_of
tame_even = record { tame = λ d. chosen (is_even d) d d 0 (omega arith) (omega arith) }

pub tame_odd : Tame odd_of
unfolding odd_of
tame_odd = record { tame = λ d. chosen (is_even d) d 0 d (omega arith) (omega arith) }

pub tame_even_one : Tame even_one
unfolding even_one
tame_even_one = record { tame = λ d. chosen (is_even d) d 1 0 (omega arith) (omega arith) }

pub tame_odd_one : Tame odd_one
unfolding odd_one
tame_odd_one = record { tame = λ d. chosen (is_even d) d 0 1 (omega arith) (omega arith) }

pub tame_at : (k : ℕ) → Tame (is_at k)
unfolding is_at
tame_at k = record { tame = λ d. chosen (eqb d k) d 1 0 (omega arith) (omega arith) }

-- a sum over pairs of numbers that are at most m
pub pairs_most : (n m : ℕ) (f : ℕ → ℕ → ℕ) → ((i j : ℕ) → Within n i → Within n j → f i j ≤ m) → sum_pairs n f ≤ n * (n * m)
unfolding sum_pairs
pairs_most zero m f h = omega arith
pairs_most (suc n) m f h =
    omega (arith, pairs_most n m f (λ i j w v. h i j (omega arith) (omega arith)), sum_le n (λ i w. h i (suc n) (omega arith) (omega arith)))

module _ {g : Graph} (m : Molecule g) {f : ℕ → ℕ} (t : Tame f) where
  distance_most : {i j : ℕ} → Within g.atoms i → Within g.atoms j → f (distance g i j) ≤ g.atoms
  distance_most {i} {j} w v = omega (arith, t.tame (distance g i j), distance_below m w v)

  pub vertex_most : {a : ℕ} → Within g.atoms a → vertex g a f ≤ g.atoms * g.atoms
  unfolding vertex
  vertex_most {a} w = sum_le g.atoms (λ j v. distance_most w v)

  pub total_most : total g f ≤ g.atoms * (g.atoms * g.atoms)
  unfolding total
  total_most = pairs_most g.atoms g.atoms (λ i j. f (distance g i j)) (λ i j w v. distance_most w v)

-- the vertex sum of an atom that is not alone is not 0
pub vertex_sum_positive : {g : Graph} → Molecule g → {u v : ℕ} → Within g.atoms u → Within g.atoms v → (u ≡ v → ⊥) → 1 ≤ vertex_sum g u
unfolding vertex
vertex_sum_positive {g} m {u} {v} hu hv ne = above (distance g u v) (λ z. ne (distance_zero m hu hv z)) (sum_at g.atoms (distance g u) v hv)
  where
    above : {s : ℕ} (d : ℕ) → (d ≡ 0 → ⊥) → d ≤ s → 1 ≤ s
    above zero z l = absurd (z refl)
    above (suc d) z l = omega arith

-- an assembly of blocks of at most n atoms
pub atoms_most : (n : ℕ) (blocks : ℕ → Graph) (joins : ℕ → Join) (last : ℕ) → ((k : ℕ) → k ≤ last → (blocks k).atoms ≤ n) → (written blocks joins last).atoms ≤ n * suc last
unfolding written joined
atoms_most n blocks joins zero h = omega (arith, h 0 (omega arith))
atoms_most n blocks joins (suc m) h = omega (arith, atoms_most n blocks joins m (λ k q. h k (omega arith)), h (suc m) (omega arith))
