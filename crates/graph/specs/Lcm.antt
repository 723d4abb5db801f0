-- Laws. The least common multiple: what it divides, how Euclid's divisor gives it, and that a cap on the numbers does not show in it. Assumes nothing.
use Prim.Native.Nat.{ℕ, zero, suc, ◌+◌, ◌*◌, ◌-◌, ◌/◌, ◌%◌, min, ◌≤◌, ◌<◌, ◌∣◌}
use Rattle.std.specs.Prelude.{Bool, true, false, ◌⊎◌, ◌↔◌, ◌≡◌, refl, eqb}
use Rattle.std.proofs.Common.{inl, inr, ◌∙◌, ap₂, mul-le-mul_right, mod-lt, eq-or-lt_of_le, eq-zero-or-pos, eqb-true, eq-eqb}
use Rattle.std.proofs.Math.Logic.{⊎_elim}
use Rattle.std.proofs.Math.Path.{sym, ap, subst}
use Rattle.std.proofs.Math.Nat.{mul-pos, mul-mod_right, dvd_of_mod-eq-zero, mod-eq-zero_of_dvd, dvd-mul_left, dvd-mul_right, dvd-mod_iff, dvd_trans, dvd_refl, dvd_antisymm, dvd-zero, one-dvd, div-mul_cancel, mul-div_cancel', zero-mul, le_of_dvd, le-suc_iff, eq_of_mul-eq-mul_left, eq_of_mul-eq-mul_right, min-le_right}
use native.Mathlib.Omega.{arith}
use Rattle.graph.specs.Graph.{Within, first_from}
use Rattle.graph.specs.Distance.{first_finds}
use Rattle.graph.specs.Sums.{wider, last}
use Rattle.graph.specs.Paths.{lcm, lcm_over, lcm_pairs}
use Rattle.graph.specs.Notions.{Gcd, AtomPair, lcm_starts}

-- the first that passes is not before `from`, and not after any that passes
first_between : (fuel from : ℕ) (p : ℕ → Bool) (k : ℕ) → from ≤ k → p k ≡ true → (from ≤ first_from fuel from p) × (first_from fuel from p ≤ k)
unfolding first_from
first_between zero from p k l h = (omega arith, l)
first_between (suc fuel) from p k l h = go (p from) refl (λ m. first_between fuel (suc from) p k m h)
  where
    go : (t : Bool) → p from ≡ t → (from < k → (from < first_from fuel (suc from) p) × (first_from fuel (suc from) p ≤ k))
        → (from ≤ elim t [ true ↦ from | false ↦ first_from fuel (suc from) p ]) × (elim t [ true ↦ from | false ↦ first_from fuel (suc from) p ] ≤ k)
    go true e r = (omega arith, l)
    go false e r = ⊎_elim (λ q. let z : false ≡ true = sym e ∙ (rw q h) in let y : ◌≡◌ {A = ℕ} 0 1 = cc in absurd (omega arith)) (λ m. let s = r m in (omega arith, s.1)) (eq-or-lt_of_le l)

module _ (a b : ℕ) (pa : 0 < a) (pb : 0 < b) where
  test : ℕ → Bool
  test k = eqb (k * a % b) 0

  factor : ℕ
  factor = first_from b 1 test

  within : (1 ≤ factor) × (factor ≤ b)
  unfolding factor test
  within = first_between b 1 test b pb (eq-eqb _ 0 (mul-mod_right b a))

  lcm_pos : 0 < lcm a b
  unfolding lcm factor test
  lcm_pos = mul-pos within.0 pa

  lcm_left : a ∣ lcm a b
  unfolding lcm
  lcm_left = dvd-mul_left a _

  lcm_right : b ∣ lcm a b
  unfolding lcm factor test
  lcm_right = dvd_of_mod-eq-zero b (eqb-true _ 0 (first_finds b 1 test (omega (arith, within))))

  -- no common multiple but 0 is less
  lcm_least : (t : ℕ) → a ∣ t → b ∣ t → 0 < t → lcm a b ≤ t
  unfolding lcm factor test
  lcm_least t u v p =
      let e : t / a * a ≡ t = div-mul_cancel a u in
      let q : 1 ≤ t / a = ⊎_elim (λ z. absurd (omega (arith, sym e ∙ ap (λ (n : ℕ). n * a) z ∙ zero-mul a))) (λ z. z) (eq-zero-or-pos (t / a)) in
      subst (λ (n : ℕ). lcm a b ≤ n) e
      (mul-le-mul_right a (first_between b 1 test (t / a) q (eq-eqb _ 0 (ap (λ (n : ℕ). n % b) e ∙ mod-eq-zero_of_dvd b v))).1)

  -- it divides exactly the common multiples
  lcm_dvd : (t : ℕ) → (lcm a b ∣ t) ↔ ((a ∣ t) × (b ∣ t))
  lcm_dvd t = (λ d. (dvd_trans a lcm_left d, dvd_trans b lcm_right d), λ d. into d.0 d.1)
    where
      into : a ∣ t → b ∣ t → lcm a b ∣ t
      into u v =
          ⊎_elim (λ z. dvd_of_mod-eq-zero (lcm a b) z)
          (λ z. absurd (omega (
            arith,
            mod-lt t lcm_pos,
            lcm_least (t % lcm a b) ((dvd-mod_iff a lcm_left).1 u) ((dvd-mod_iff b lcm_right).1 v) z,
          )))
          (eq-zero-or-pos (t % lcm a b))

  -- it is no less than either
  lcm_ge : (a ≤ lcm a b) × (b ≤ lcm a b)
  lcm_ge = (le_of_dvd lcm_pos lcm_left, le_of_dvd lcm_pos lcm_right)

  -- by the greatest common divisor
  pub lcm_gcd : (d : ℕ) → Gcd a b d → lcm a b ≡ a / d * b
  lcm_gcd d h =
      dvd_antisymm ((lcm_dvd (a / d * b)).1 (subst (λ (n : ℕ). a ∣ n) common (dvd-mul_right a (b / d)), dvd-mul_left b (a / d)))
      (subst (λ (n : ℕ). a / d * b ∣ n) whole (dvd-mul_right (a / d * b) (d / e)))
    where
      L : ℕ
      L = lcm a b

      e : ℕ
      e = a * b / L

      product : L * e ≡ a * b
      product = mul-div_cancel' L ((lcm_dvd (a * b)).1 (dvd-mul_right a b, dvd-mul_left b a))

      common : a * (b / d) ≡ a / d * b
      common = omega (arith, ap (λ (n : ℕ). n * (b / d)) (div-mul_cancel d h.left), ap (λ (n : ℕ). a / d * n) (div-mul_cancel d h.right))

      -- what L leaves of a b divides both
      e_left : e ∣ a
      e_left =
          subst (λ (n : ℕ). e ∣ n)
          (eq_of_mul-eq-mul_left b pb (L / b * e) a (omega (arith, ap (λ (n : ℕ). n * e) (mul-div_cancel' b lcm_right), product))) (dvd-mul_left e (L / b))

      e_right : e ∣ b
      e_right =
          subst (λ (n : ℕ). e ∣ n)
          (eq_of_mul-eq-mul_left a pa (L / a * e) b (omega (arith, ap (λ (n : ℕ). n * e) (mul-div_cancel' a lcm_left), product))) (dvd-mul_left e (L / a))

      e_pos : 0 < e
      e_pos = ⊎_elim (λ z. absurd (omega (arith, mul-pos pa pb, sym product ∙ ap (λ (n : ℕ). L * n) z))) (λ p. p) (eq-zero-or-pos e)

      whole : a / d * b * (d / e) ≡ L
      whole =
          eq_of_mul-eq-mul_right e e_pos (a / d * b * (d / e)) L
          (omega (
            arith,
            ap (λ (n : ℕ). a / d * b * n) (div-mul_cancel e (h.greatest e e_left e_right)),
            ap (λ (n : ℕ). n * b) (div-mul_cancel d h.left),
            product,
          ))

-- Euclid's step, and where it ends
pub gcd_step : (a b d : ℕ) → Gcd b (a % b) d → Gcd a b d
gcd_step a b d h = record {
  left = (dvd-mod_iff d h.left).0 h.right;
  right = h.left;
  greatest = λ x u v. h.greatest x v ((dvd-mod_iff x v).1 u);
}

pub gcd_end : (a : ℕ) → Gcd a 0 a
gcd_end a = record { left = dvd_refl a; right = dvd-zero a; greatest = λ x u v. u }

-- caps on both numbers do not show in the capped result
pub lcm_cap : (cap a b : ℕ) → 0 < cap → 0 < a → 0 < b → min cap (lcm (min cap a) (min cap b)) ≡ min cap (lcm a b)
lcm_cap cap a b p pa pb = go (eq-or-lt_of_le (min-le_right cap a)) (eq-or-lt_of_le (min-le_right cap b))
  where
    go : (min cap a ≡ a) ⊎ (min cap a < a) → (min cap b ≡ b) ⊎ (min cap b < b) → min cap (lcm (min cap a) (min cap b)) ≡ min cap (lcm a b)
    go (inl x) (inl y) = ap₂ (λ (u v : ℕ). min cap (lcm u v)) x y
    go (inl x) (inr y) = omega (arith, lcm_ge a b pa pb, lcm_ge (min cap a) (min cap b) (omega arith) (omega arith))
    go (inr x) y = omega (arith, lcm_ge a b pa pb, lcm_ge (min cap a) (min cap b) (omega arith) (omega arith))

-- of a number and a row
module _ (f : ℕ → ℕ) (m : ℕ) (pm : 0 < m) where
  pub over_pos : (n : ℕ) → ((k : ℕ) → Within n k → 0 < f k) → 0 < lcm_over n f m
  unfolding lcm_over
  over_pos zero pos = pm
  over_pos (suc n) pos = lcm_pos (lcm_over n f m) (f (suc n)) (over_pos n (λ k w. pos k (wider w))) (pos (suc n) (last n))

  over_dvd : (n : ℕ) → ((k : ℕ) → Within n k → 0 < f k) → (t : ℕ) → (lcm_over n f m ∣ t) ↔ ((m ∣ t) × ((k : ℕ) → Within n k → f k ∣ t))
  unfolding lcm_over
  over_dvd zero pos t = (λ d. (d, λ k w. absurd (omega arith)), λ d. d.0)
  over_dvd (suc n) pos t =
      let less : (k : ℕ) → Within n k → 0 < f k = λ k w. pos k (wider w) in
      let rest = over_dvd n less t in
      let both = lcm_dvd (lcm_over n f m) (f (suc n)) (over_pos n less) (pos (suc n) (last n)) t in (
        λ d. let u = both.0 d in let r = rest.0 u.0 in (
          r.0,
          λ k w. ⊎_elim (λ q. r.1 k (record { low = w.low; high = q })) (λ q. subst (λ (x : ℕ). f x ∣ t) (sym q) u.1) (le-suc_iff.0 w.high),
        ),
        λ d. both.1 (rest.1 (d.0, λ k w. d.1 k (wider w)), d.1 (suc n) (last n)),
      )

farther : {n i j : ℕ} → AtomPair n i j → AtomPair (suc n) i j
farther p = record { low = p.low; less = p.less; high = omega arith }

newest : {n i : ℕ} → Within n i → AtomPair (suc n) i (suc n)
newest w = record { low = w.low; less = omega arith; high = omega arith }

-- of all pairs, as they are defined and start by start
module _ (f : ℕ → ℕ → ℕ) where
  pub pairs_pos : (n : ℕ) → ((i j : ℕ) → AtomPair n i j → 0 < f i j) → 0 < lcm_pairs n f
  unfolding lcm_pairs
  pairs_pos zero pos = omega arith
  pairs_pos (suc n) pos = over_pos (λ i. f i (suc n)) (lcm_pairs n f) (pairs_pos n (λ i j p. pos i j (farther p))) n (λ k w. pos k (suc n) (newest w))

  pub pairs_dvd : (n : ℕ) → ((i j : ℕ) → AtomPair n i j → 0 < f i j) → (t : ℕ) → (lcm_pairs n f ∣ t) ↔ ((i j : ℕ) → AtomPair n i j → f i j ∣ t)
  unfolding lcm_pairs
  pairs_dvd zero pos t = (λ d i j p. absurd (omega arith), λ d. one-dvd t)
  pairs_dvd (suc n) pos t =
      let less : (i j : ℕ) → AtomPair n i j → 0 < f i j = λ i j p. pos i j (farther p) in
      let rest = pairs_dvd n less t in
      let both = over_dvd (λ i. f i (suc n)) (lcm_pairs n f) (pairs_pos n less) n (λ k w. pos k (suc n) (newest w)) t in (
        λ d i j p. let u = both.0 d in
            ⊎_elim (λ q. rest.0 u.0 i j (record { low = p.low; less = p.less; high = q }))
            (λ q. subst (λ (x : ℕ). f i x ∣ t) (sym q) (u.1 i (record { low = p.low; high = omega arith }))) (le-suc_iff.0 p.high),
        λ d. both.1 (rest.1 (λ i j p. d i j (farther p)), λ k w. d k (suc n) (newest w)),
      )

  module _ (n : ℕ) (pos : (i j : ℕ) → AtomPair n i j → 0 < f i j) where
    -- the pairs of one start
    onwards : (i : ℕ) → 1 ≤ i → (k : ℕ) → Within (n - i) k → AtomPair n i (i + k)
    onwards i l k w = record { low = l; less = omega arith; high = omega arith }

    row_pos : (i : ℕ) → 1 ≤ i → (k : ℕ) → Within (n - i) k → 0 < f i (i + k)
    row_pos i l k w = pos i (i + k) (onwards i l k w)

    pub starts_pos : (m : ℕ) → 0 < lcm_starts n f m
    unfolding lcm_starts
    starts_pos zero = omega arith
    starts_pos (suc i) = over_pos (λ k. f (suc i) (suc i + k)) (lcm_starts n f i) (starts_pos i) (n - suc i) (row_pos (suc i) (omega arith))

    pub starts_dvd : (m t : ℕ) → (lcm_starts n f m ∣ t) ↔ ((i j : ℕ) → AtomPair n i j → i ≤ m → f i j ∣ t)
    unfolding lcm_starts
    starts_dvd zero t = (λ d i j p l. absurd (omega arith), λ d. one-dvd t)
    starts_dvd (suc m) t =
        let rest = starts_dvd m t in
        let both = over_dvd (λ k. f (suc m) (suc m + k)) (lcm_starts n f m) (starts_pos m) (n - suc m) (row_pos (suc m) (omega arith)) t in (
          λ d i j p l. let u = both.0 d in
              ⊎_elim (λ q. rest.0 u.0 i j p q)
              (λ q. let e : i + (j - i) ≡ j = omega arith in
              subst (λ (x : ℕ). f i x ∣ t) e
              (subst (λ (x : ℕ). f x (x + (j - i)) ∣ t) (sym q) (u.1 (j - i) (record { low = omega arith; high = omega arith })))) (le-suc_iff.0 l),
          λ d. both.1 (rest.1 (λ i j p l. d i j p (omega arith)), λ k w. d (suc m) (suc m + k) (onwards (suc m) (omega arith) k w) (omega arith)),
        )

    -- D start by start
    pub starts_all : lcm_starts n f n ≡ lcm_pairs n f
    starts_all =
        dvd_antisymm ((starts_dvd n (lcm_pairs n f)).1 (λ i j p l. (pairs_dvd n pos (lcm_pairs n f)).0 (dvd_refl _) i j p))
        ((pairs_dvd n pos (lcm_starts n f n)).1 (λ i j p. (starts_dvd n (lcm_starts n f n)).0 (dvd_refl _) i j p (omega arith)))

    -- the early stop: what some starts give is no more than the whole
    pub starts_le : (m : ℕ) → lcm_starts n f m ≤ lcm_pairs n f
    starts_le m =
        le_of_dvd (pairs_pos n pos) ((starts_dvd m (lcm_pairs n f)).1 (λ i j p l. (pairs_dvd n pos (lcm_pairs n f)).0 (dvd_refl _) i j p))
