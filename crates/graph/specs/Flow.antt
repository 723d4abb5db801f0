-- Laws. Document 001's second part, in whole numbers over one row of counts. From a start i, T(u) adds u's own weight and T of the neighbours one farther.
-- What a bond answers for is then c(i,v) T(u), for its nearer end v and its farther end u. Assumes nothing.
use Prim.Native.Nat.{ℕ, zero, suc, ◌+◌, ◌*◌, ◌-◌, ◌<◌}
use Rattle.std.specs.Prelude.{Bool, true, false, ◌&&◌, ◌≡◌, eqb}
use Rattle.std.proofs.Math.Bool.{cond}
use Rattle.std.proofs.Math.Path.{refl, ap, ap₂}
use Rattle.std.proofs.Common.{sym, ◌∙◌, mul-add, arith, eqb-true}
use Rattle.std.proofs.Math.Nat.{add-mul}
use Rattle.graph.specs.Graph.{Graph, Bond, Within, Molecule, joins, distance, sum}
use Rattle.graph.specs.Bonds.{both}
use Rattle.graph.specs.Distance.{distance_below, distance_zero}
use Rattle.graph.specs.Sums.{sum_cong, sum_add, sum_scale, sum_scaled, sum_swap, sum_pick}
use Rattle.graph.specs.Paths.{path_count, paths_using}
use Rattle.graph.specs.Notions.{near, OnTheWay, across, BondInside, onward, gathered}
use Rattle.graph.specs.Choices.{cond_and, cond_swap, cond_or, cond_add, cond_left, cond_right}
use Rattle.graph.specs.Steps.{near_at, near_cong, near_none, using_step, using_self}
use Rattle.graph.specs.Uses.{using_joined}

-- U carries its sources along m, T gathers its weights against m: both ways of adding them up agree
module _ (n : ℕ) (m : ℕ → ℕ → Bool) (s U q T : ℕ → ℕ)
    (carries : (j : ℕ) → Within n j → U j ≡ s j + sum n (λ v. cond (m v j) (U v) 0))
    (gathers : (u : ℕ) → Within n u → T u ≡ q u + sum n (λ w. cond (m u w) (T w) 0)) where
  both_ways : sum n (λ j. U j * q j) ≡ sum n (λ j. s j * T j)
  both_ways = omega (arith, there, back, swapped)
    where
      passed : ℕ
      passed = sum n (λ j. sum n (λ v. cond (m v j) (U v) 0 * T j))

      passed' : ℕ
      passed' = sum n (λ v. sum n (λ j. U v * cond (m v j) (T j) 0))

      there : sum n (λ j. U j * T j) ≡ sum n (λ j. s j * T j) + passed
      there =
          sum_cong n (λ j w. ap (λ (x : ℕ). x * T j) (carries j w) ∙ add-mul (s j) (sum n (λ v. cond (m v j) (U v) 0)) (T j)
          ∙ ap (λ (x : ℕ). s j * T j + x) (sym (sum_scaled n (λ v. cond (m v j) (U v) 0) (T j))))
          ∙ sum_add n (λ j. s j * T j) (λ j. sum n (λ v. cond (m v j) (U v) 0 * T j))

      back : sum n (λ j. U j * T j) ≡ sum n (λ j. U j * q j) + passed'
      back =
          sum_cong n (λ j w. ap (λ (x : ℕ). U j * x) (gathers j w) ∙ mul-add (U j) (q j) (sum n (λ v. cond (m j v) (T v) 0))
          ∙ ap (λ (x : ℕ). U j * q j + x) (sym (sum_scale n (U j) (λ v. cond (m j v) (T v) 0))))
          ∙ sum_add n (λ j. U j * q j) (λ v. sum n (λ j. U v * cond (m v j) (T j) 0))

      swapped : passed ≡ passed'
      swapped =
          sum_swap n n (λ j v. cond (m v j) (U v) 0 * T j)
          ∙ sum_cong n (λ v w. sum_cong n (λ j x. cond_left (m v j) (U v) (T j) ∙ sym (cond_right (m v j) (U v) (T j))))

-- the sum of f over the atoms that bond e joins to j is f at the one it gives to j
across-sum : (n : ℕ) (e : Bond) (f : ℕ → ℕ) (j : ℕ) → BondInside n e → sum n (λ v. cond (joins e v j) (f v) 0) ≡ across e f j
unfolding joins across
across-sum n e f j r =
    sum_cong n (λ v w.
    cond_or (eqb e.one v && eqb e.two j) (eqb e.one j && eqb e.two v) (f v)
    (λ p q. r.apart (eqb-true e.one j (both (eqb e.one j) (eqb e.two v) q).0 ∙ sym (eqb-true e.two j (both (eqb e.one v) (eqb e.two j) p).1)))
    ∙ ap₂ ◌+◌ (cond_and (eqb e.one v) (eqb e.two j) (f v))
    (cond_and (eqb e.one j) (eqb e.two v) (f v) ∙ cond_swap (eqb e.one j) (eqb e.two v) (f v)))
    ∙ sum_add n (λ v. cond (eqb e.one v) (cond (eqb e.two j) (f v) 0) 0) (λ v. cond (eqb e.two v) (cond (eqb e.one j) (f v) 0) 0)
    ∙ ap₂ ◌+◌ (sum_pick n e.one (λ v. cond (eqb e.two j) (f v) 0) r.one) (sum_pick n e.two (λ v. cond (eqb e.one j) (f v) 0) r.two)

-- T, by its rule
pub gathered_step : (g : Graph) (i : ℕ) (q : ℕ → ℕ) (u : ℕ) → distance g i u < g.atoms
    → gathered g i q u ≡ q u + sum g.atoms (λ w. cond (near g i u w) (gathered g i q w) 0)
unfolding gathered onward
gathered_step g i q u h = go (g.atoms - distance g i u) refl
  where
    go : (k : ℕ) → g.atoms - distance g i u ≡ k
        → onward g i q k u ≡ q u + sum g.atoms (λ w. cond (near g i u w) (onward g i q (g.atoms - distance g i w) w) 0)
    go zero z = absurd (omega arith)
    go (suc k) z =
        ap (λ (x : ℕ). q u + x)
        (sum_cong g.atoms (λ w hw. near_at g i u w (λ y.
        ap (λ (m : ℕ). onward g i q m w) (let e : k ≡ g.atoms - distance g i w = omega (arith, y.one) in e))))

-- what bond e carries from the start i
abbrev pub flow : Graph → ℕ → (ℕ → ℕ) → Bond → ℕ
flow g i T e =
    cond (near g i e.one e.two) (path_count g i e.one) 0 * T e.two
    + cond (near g i e.two e.one) (path_count g i e.two) 0 * T e.one

module _ {g : Graph} (m : Molecule g) {i : ℕ} (hi : Within g.atoms i) (e : Bond) where
  -- the paths to j whose last bond is e
  source : ℕ → ℕ
  source j = sum g.atoms (λ v. cond (near g i v j) (cond (joins e v j) (path_count g i v) 0) 0)

  -- a shortest path to j uses e in its last bond or before
  carried : (j : ℕ) → Within g.atoms j → paths_using g e i j ≡ source j + sum g.atoms (λ v. cond (near g i v j) (paths_using g e i v) 0)
  unfolding source
  carried j hj = go (distance g i j) refl
    where
      none : (f : ℕ → ℕ) → distance g i j ≡ 0 → sum g.atoms (λ v. cond (near g i v j) (f v) 0) ≡ 0
      none f d = near_none g i j (λ v hv y. absurd (omega (arith, y.one)))

      split : (v : ℕ) → Within g.atoms v → OnTheWay g i v j → (t : Bool) → joins e v j ≡ t
          → cond t (path_count g i v) (paths_using g e i v) ≡ cond t (path_count g i v) 0 + paths_using g e i v
      split v hv y false h = omega arith
      split v hv y true h = omega (arith, using_joined m hi e v j hv y.one h)

      go : (k : ℕ) → distance g i j ≡ k → paths_using g e i j ≡ source j + sum g.atoms (λ v. cond (near g i v j) (paths_using g e i v) 0)
      go zero d = ap (paths_using g e i) (sym (distance_zero m hi hj d)) ∙ using_self m hi e ∙ sym (ap₂ ◌+◌ (none (λ v. cond (joins e v j) (path_count g i v) 0) d) (none (paths_using g e i) d))
      go (suc k) d =
          using_step m hi e k j d
          ∙ near_cong g i j (λ v hv y. split v hv y (joins e v j) refl)
          ∙ sum_cong g.atoms (λ v hv. cond_add (near g i v j) (cond (joins e v j) (path_count g i v) 0) (paths_using g e i v))
          ∙ sum_add g.atoms (λ v. cond (near g i v j) (cond (joins e v j) (path_count g i v) 0) 0) (λ v. cond (near g i v j) (paths_using g e i v) 0)

  -- the weighted uses of e by the shortest paths from i are what it carries
  pub through : BondInside g.atoms e → (q : ℕ → ℕ) → sum g.atoms (λ j. paths_using g e i j * q j) ≡ flow g i (gathered g i q) e
  unfolding source across
  through r q =
      both_ways n (near g i) source (paths_using g e i) q T carried (λ u hu. gathered_step g i q u (distance_below m hi hu))
      ∙ sum_cong n (λ j hj. ap (λ (x : ℕ). x * T j)
      (sum_cong n (λ v hv. cond_swap (near g i v j) (joins e v j) (path_count g i v)) ∙ across-sum n e (λ v. from v j) j r)
      ∙ add-mul (cond (eqb e.two j) (from e.one j) 0) (cond (eqb e.one j) (from e.two j) 0) (T j)
      ∙ ap₂ ◌+◌ (cond_left (eqb e.two j) (from e.one j) (T j)) (cond_left (eqb e.one j) (from e.two j) (T j)))
      ∙ sum_add n (λ j. cond (eqb e.two j) (from e.one j * T j) 0) (λ j. cond (eqb e.one j) (from e.two j * T j) 0)
      ∙ ap₂ ◌+◌ (sum_pick n e.two (λ j. from e.one j * T j) r.two) (sum_pick n e.one (λ j. from e.two j * T j) r.one)
    where
      n : ℕ
      n = g.atoms

      T : ℕ → ℕ
      T = gathered g i q

      from : ℕ → ℕ → ℕ
      from v j = cond (near g i v j) (path_count g i v) 0
