-- D start by start: it grows by whole factors, and what the starts passed answer for grows with it. Assumes nothing.
use Prim.Native.Nat.{ℕ, ◌+◌, ◌*◌, ◌/◌, ◌≤◌, ◌<◌, ◌∣◌}
use mathlib.Core.Bool.{Bool, true, false, cond}
use mathlib.Core.Path.{◌≡◌, refl, ◌∙◌, ap}
use native.Mathlib.Nat.{dvd_refl, dvd_trans, dvd-mul_left, one-dvd, mul-div_cancel', eq_of_mul-eq-mul_left}
use native.Mathlib.Omega.{arith}
use borrow.Author.Tests.{ltb-true, ltb-false}
use lib.Dec.{ltb}
use Rattle.graph.specs.Graph.{Graph, Bond, Within, Molecule, sum}
use Rattle.graph.specs.Sums.{sum_cong, sum_scale}
use Rattle.graph.specs.Paths.{path_count, paths_using}
use Rattle.graph.specs.Notions.{AtomPair, weight, lcm_starts}
use Rattle.graph.specs.Lcm.{starts_dvd}
use Rattle.graph.specs.Steps.{count_pos, count_self}
use Rattle.graph.specs.Backwards.{count_sym, pair_pos}
use Rattle.shares.specs.Work.{carried}

div_scaled : (f d c : ℕ) → 0 < c → c ∣ d → f * d / c ≡ f * (d / c)
div_scaled f d c p h =
    eq_of_mul-eq-mul_left c p (f * d / c) (f * (d / c))
    (mul-div_cancel' c (dvd_trans c h (dvd-mul_left d f)) ∙ omega (arith, ap (λ (x : ℕ). f * x) (mul-div_cancel' c h)))

module _ {g : Graph} (m : Molecule g) where
  abbrev starts : ℕ → ℕ
  starts i = lcm_starts g.atoms (path_count g) i

  pair_divides : (i s j : ℕ) → AtomPair g.atoms s j → s ≤ i → path_count g s j ∣ starts i
  pair_divides i s j p l = (starts_dvd (path_count g) g.atoms (pair_pos m) i (starts i)).0 (dvd_refl (starts i)) s j p l

  pub next_divides : (i : ℕ) → starts i ∣ starts (i + 1)
  next_divides i = (starts_dvd (path_count g) g.atoms (pair_pos m) i (starts (i + 1))).1 (λ s j p l. pair_divides (i + 1) s j p (omega arith))

  -- D of the starts up to i has all the counts of i, either way round
  pub count_divides : {i j : ℕ} → Within g.atoms i → Within g.atoms j → path_count g i j ∣ starts i
  count_divides {i} {j} hi hj = go (ltb i j) refl (ltb j i) refl
    where
      go : (s : Bool) → ltb i j ≡ s → (t : Bool) → ltb j i ≡ t → path_count g i j ∣ starts i
      go true h t k = pair_divides i i j (record { low = hi.low; less = ltb-true i j h; high = hj.high }) (omega arith)
      go false h true k =
          let l = ltb-true j i k in
          rw (count_sym m hi hj) (pair_divides i j i (record { low = hj.low; less = l; high = hi.high }) (omega arith))
      go false h false k =
          let e : j ≡ i = omega (arith, ltb-false i j h, ltb-false j i k) in
          rw (e, count_self m hi) (one-dvd _)

  -- what a start passed answers for
  carried_scaled : (i f s : ℕ) → Within g.atoms s → s ≤ i → (e : Bond) → carried g s (f * starts i) e ≡ f * carried g s (starts i) e
  unfolding weight
  carried_scaled i f s hs l e =
      sum_cong g.atoms (λ j hj. at j hj (ltb s j) refl) ∙ sum_scale g.atoms f (λ j. paths_using g e s j * weight g (starts i) s j)
    where
      at : (j : ℕ) → Within g.atoms j → (t : Bool) → ltb s j ≡ t
          → paths_using g e s j * cond (ltb s j) (f * starts i / path_count g s j) 0 ≡ f * (paths_using g e s j * cond (ltb s j) (starts i / path_count g s j) 0)
      at j hj true q =
          rw (q, div_scaled f (starts i) (path_count g s j) (count_pos m hs hj) (pair_divides i s j (record { low = hs.low; less = ltb-true s j q; high = hj.high }) l))
          (omega arith)
      at j hj false q = rw q (omega arith)

  pub sofar_scaled : (i f : ℕ) → i ≤ g.atoms → (e : Bond) → sum i (λ s. carried g s (f * starts i) e) ≡ f * sum i (λ s. carried g s (starts i) e)
  sofar_scaled i f l e =
      sum_cong i (λ s w. carried_scaled i f s (record { low = w.low; high = omega arith }) w.high e) ∙ sum_scale i f (λ s. carried g s (starts i) e)
