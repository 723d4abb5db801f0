-- Laws. How fine the answer is: what a bond brings for K is at least K times what it brings for 1, and below K times one more. Assumes nothing.
use Prim.Native.Nat.{ℕ, zero, suc, ◌+◌, ◌*◌, ◌/◌, ◌≤◌, ◌<◌}
use mathlib.Core.List.{List, [], ◌∷◌}
use native.Mathlib.Nat.{le_refl, mul-le-mul, mul-le-mul_left, le-div_iff_mul-le, div-mul-le_self, lt-mul-div-succ, mul-lt-mul_of_pos_left}
use native.Mathlib.Omega.{arith}
use lib.ListN.{length}
use Rattle.graph.specs.Graph.{Graph, Bond, Molecule, sum_bonds, vertex_sum}
use Rattle.graph.specs.Tree.{enough_bonds}
use Rattle.balaban.specs.Balaban.{Largest, largest_root, bound, term, bond_count, divisor, reckoned, Fine}
use Rattle.balaban.proofs.Squares.{largest_root_lem, largest_none}

-- T is at least K times t, and below K times t + 1
record Near (K t T : ℕ) : Type 0 where
  pub least : K * t ≤ T
  pub below : T < K * (t + 1)

module _ (K : ℕ) (pos : 1 ≤ K) where
  near_largest : {B p t T : ℕ} → Largest B p t → Largest (K * K * B) p T → Near K t T
  near_largest {B} {p} {t} {T} h k = record {
    least = k.most (K * t) (omega (arith, mul-le-mul_left (K * K) h.fits));
    below = under (λ l. omega (
      arith,
      mul-le-mul (mul-le-mul l l) (le_refl p),
      k.fits,
      mul-lt-mul_of_pos_left {m = B} {n = (t + 1) * (t + 1) * p} {k = K * K} (above (λ m. omega (arith, h.most (t + 1) m))) (mul-le-mul pos pos),
    ));
  }
    where
      under : (K * (t + 1) ≤ T → ⊥) → T < K * (t + 1)
      under n = omega arith

      above : ((t + 1) * (t + 1) * p ≤ B → ⊥) → B < (t + 1) * (t + 1) * p
      above n = omega arith

  near_root : (p : ℕ) → Near K (largest_root (bound 1) p) (largest_root (bound K) p)
  near_root zero = rw (largest_none (bound 1), largest_none (bound K)) (record { least = omega arith; below = omega arith })
  near_root (suc p) = near_largest (largest_root_lem (bound 1) (suc p) (omega arith)) (largest_root_lem (bound K) (suc p) (omega arith))

  near_term : (g : Graph) (b : Bond) → Near K (term 1 g b) (term K g b)
  unfolding term
  near_term g b = near_root (vertex_sum g b.one * vertex_sum g b.two)

  -- over some bonds
  near_sum : (g : Graph) (bs : List Bond) → (K * sum_bonds bs (term 1 g) ≤ sum_bonds bs (term K g)) × (sum_bonds bs (term K g) ≤ K * (sum_bonds bs (term 1 g) + length bs))
  unfolding sum_bonds
  near_sum g [] = (omega arith, omega arith)
  near_sum g (b ∷ bs) = let n = near_term g b in let r = near_sum g bs in (omega arith, omega arith)

  -- and divided
  quotients : (m s S d : ℕ) → 1 ≤ d → K * s ≤ S → S ≤ K * (s + m) → (K * (m * s / d) ≤ m * S / d) × (m * S / d * d < K * (d * (m * s / d + 1) + m * m))
  quotients m s S d one low high = (
    (le-div_iff_mul-le one).1 (omega (arith, mul-le-mul_left K (div-mul-le_self (m * s) d), mul-le-mul_left m low)),
    omega (arith, div-mul-le_self (m * S) d, mul-le-mul_left m high, mul-lt-mul_of_pos_left {k = K} (lt-mul-div-succ (m * s) {b = d} one) pos),
  )

  pub fine_molecule : {g : Graph} → Molecule g → Fine K g (reckoned 1 g)
  unfolding reckoned
  fine_molecule {g} h =
      let s = near_sum g g.bonds in
      let q = quotients (bond_count g) (sum_bonds g.bonds (term 1 g)) (sum_bonds g.bonds (term K g)) (divisor g) (omega (arith, enough_bonds h)) s.0 s.1 in
      record { least = q.0; below = q.1 }
