-- Work. A map of the numbers 1 to n into themselves that gives no number twice leaves none out: it is a matching. Assumes nothing.
use Prim.Native.Nat.{ℕ, zero, suc, ◌+◌, ◌≤◌, ◌<◌}
use Rattle.std.specs.Prelude.{Bool, true, false, ◌≡◌, eqb, ltb}
use Rattle.std.proofs.Math.Bool.{cond}
use Rattle.std.proofs.Math.Path.{refl, sym, ap}
use Rattle.std.proofs.Common.{◌∙◌, le_of_eq, eqb-true, ne_eqb, ltb-true, ltb-false}
use native.Mathlib.Omega.{arith}
use Rattle.std.proofs.lemmas.Bool.{eqb-false}
use Rattle.graph.specs.Graph.{Within, sum}
use Rattle.graph.specs.Matching.{Matching}
use Rattle.graph.specs.Sums.{wider, last, sum_cong, sum_swap, sum_none, sum_some, sum_tight, sum_pick}

-- the last of 1 to n that f leads from to w, or 0
unfoldable pub back_in : (ℕ → ℕ) → ℕ → ℕ → ℕ
back_in f zero w = 0
back_in f (suc n) w = cond (eqb (f (suc n)) w) (suc n) (back_in f n w)

pub found : (f : ℕ → ℕ) (n w v : ℕ) → Within n v → f v ≡ w → Within n (back_in f n w) × (f (back_in f n w) ≡ w)
unfolding back_in
found f zero w v h e = absurd (omega arith)
found f (suc n) w v h e = go (eqb (f (suc n)) w) refl (λ q. found f n w v q e)
  where
    other : eqb (f (suc n)) w ≡ false → Within n v
    other t = earlier (ltb v (suc n)) refl
      where
        earlier : (s : Bool) → ltb v (suc n) ≡ s → Within n v
        earlier true s = record { low = h.low; high = omega (arith, ltb-true v (suc n) s) }
        earlier false s =
            let same : suc n ≡ v = omega (arith, ltb-false v (suc n) s, h.high) in
            absurd (eqb-false (f (suc n)) w t (ap f same ∙ e))

    go : (t : Bool) → eqb (f (suc n)) w ≡ t → (Within n v → Within n (back_in f n w) × (f (back_in f n w) ≡ w))
        → Within (suc n) (cond t (suc n) (back_in f n w)) × (f (cond t (suc n) (back_in f n w)) ≡ w)
    go true t more = (last n, eqb-true (f (suc n)) w t)
    go false t more = let r = more (other t) in (wider r.0, r.1)

module _ (n : ℕ) (f : ℕ → ℕ) (there : (v : ℕ) → Within n v → Within n (f v)) (new : (u v : ℕ) → Within n u → Within n v → u < v → f u ≡ f v → ⊥) where
  pub same : (u v : ℕ) → Within n u → Within n v → f u ≡ f v → u ≡ v
  same u v a b e = go (ltb u v) refl (ltb v u) refl
    where
      go : (s : Bool) → ltb u v ≡ s → (t : Bool) → ltb v u ≡ t → u ≡ v
      go true s t r = absurd (new u v a b (ltb-true u v s) e)
      go false s true r = absurd (new v u b a (ltb-true v u r) (sym e))
      go false s false r = omega (arith, ltb-false u v s, ltb-false v u r)

  -- how often a number is met: at most once
  once : (w m : ℕ) → m ≤ n → sum m (λ v. cond (eqb (f v) w) 1 0) ≤ 1
  unfolding sum
  once w zero h = omega arith
  once w (suc m) h = go (eqb (f (suc m)) w) refl (once w m (omega arith))
    where
      none : f (suc m) ≡ w → sum m (λ v. cond (eqb (f v) w) 1 0) ≡ 0
      none e =
          sum_cong m {f = λ v. cond (eqb (f v) w) 1 0} {h = λ v. 0}
          (λ i x. ap (λ (t : Bool). cond t 1 0) (ne_eqb (f i) w (λ q. new i (suc m) (omega (arith, x, h)) (omega arith) (omega (arith, x.high)) (q ∙ sym e))))
          ∙ sum_none m

      go : (t : Bool) → eqb (f (suc m)) w ≡ t → sum m (λ v. cond (eqb (f v) w) 1 0) ≤ 1 → sum m (λ v. cond (eqb (f v) w) 1 0) + cond t 1 0 ≤ 1
      go true t l = omega (arith, none (eqb-true (f (suc m)) w t))
      go false t l = omega arith

  -- so it is met once
  met : (w : ℕ) → Within n w → 1 ≡ sum n (λ v. cond (eqb (f v) w) 1 0)
  met w x =
      let all : sum n (λ w. sum n (λ v. cond (eqb (f v) w) 1 0)) ≡ sum n (λ v. 1) = sum_swap n n (λ w v. cond (eqb (f v) w) 1 0) ∙ sum_cong n (λ v y. sum_pick n (f v) (λ _. 1) (there v y)) in
      sum_tight n {f = λ w. sum n (λ v. cond (eqb (f v) w) 1 0)} {h = λ w. 1} (λ w y. once w n (le_of_eq refl)) (le_of_eq (sym all)) w x

  pub leads : (w : ℕ) → Within n w → (v : ℕ) × Within n v × (f v ≡ w)
  leads w x =
      let (v, y, l) = sum_some n (λ v. cond (eqb (f v) w) 1 0) (omega (arith, met w x)) in
      (v, y, go v (eqb (f v) w) refl l)
    where
      go : (v : ℕ) (t : Bool) → eqb (f v) w ≡ t → 0 < cond t 1 0 → f v ≡ w
      go v true t l = eqb-true (f v) w t
      go v false t l = absurd (omega arith)

  -- THE MATCHING
  abbrev pub paired : Matching n n
  paired = record {
    to = f;
    back = back_in f n;
    there = there;
    here = λ w x. let r = leads w x in (found f n w r.0 r.1 r.2).0;
    home = λ v x. let r = found f n (f v) v x refl in same (back_in f n (f v)) v r.0 x r.1;
    away = λ w x. let r = leads w x in (found f n w r.0 r.1 r.2).1;
  }
