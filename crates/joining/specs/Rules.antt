-- Laws. How sums, and the largest, over two joined tables come of those of each: one law for whatever splits, and whatever the tables hold. Assumes nothing.
use Prim.Native.Nat.{ℕ, ◌+◌, ◌≤◌, max}
use Rattle.std.specs.Prelude.{List, ◌≡◌}
use Rattle.std.proofs.Math.Path.{sym, ap, ap₂}
use Rattle.std.proofs.Common.{◌∙◌, le-leb}
use Rattle.std.proofs.Math.Nat.{add-sub_cancel_left}
use native.Mathlib.Omega.{arith}
use Rattle.std.proofs.lemmas.Bool.{lt-leb}
use Rattle.graph.specs.Sums.{sum_cong, sum_split, sum_pairs_cong, sum_pairs_split}
use Rattle.graph.specs.Farthest.{most}
use Rattle.graph.specs.Largest.{most_cong, most_pairs_cong, most_split, most_add, most_pairs_split}
use Rattle.graph.specs.Splits.{Term, Splits, products, products_far, products_near}
use Rattle.joining.specs.Table.{Table, total_by, seen_by, largest_by, farthest_by, far_joined, joined_by}

module _ (s t : Table) (a b : ℕ) where
  -- the four ways that two atoms can lie
  pub far_first : (i j : ℕ) → i ≤ s.atoms → j ≤ s.atoms → far_joined s t a b i j ≡ s.far i j
  unfolding far_joined
  far_first i j p q = rw (le-leb i s.atoms p, far_joined) (rw (le-leb j s.atoms q))

  pub far_cross : (i j : ℕ) → i ≤ s.atoms → 1 ≤ j → far_joined s t a b i (s.atoms + j) ≡ s.far a i + 1 + t.far b j
  unfolding far_joined
  far_cross i j p q = rw (le-leb i s.atoms p, far_joined) (rw (lt-leb (s.atoms + j) s.atoms (omega arith)) (rw (add-sub_cancel_left s.atoms j)))

  pub far_back : (i j : ℕ) → 1 ≤ i → j ≤ s.atoms → far_joined s t a b (s.atoms + i) j ≡ t.far b i + 1 + s.far a j
  unfolding far_joined
  far_back i j p q = rw (lt-leb (s.atoms + i) s.atoms (omega arith), far_joined) (rw (le-leb j s.atoms q) (rw (add-sub_cancel_left s.atoms i)))

  pub far_second : (i j : ℕ) → 1 ≤ i → 1 ≤ j → far_joined s t a b (s.atoms + i) (s.atoms + j) ≡ t.far i j
  unfolding far_joined
  far_second i j p q =
      rw (lt-leb (s.atoms + i) s.atoms (omega arith), far_joined) (rw (lt-leb (s.atoms + j) s.atoms (omega arith)) (ap₂ t.far (add-sub_cancel_left s.atoms i) (add-sub_cancel_left s.atoms j)))

  module _ {f : ℕ → ℕ} {ts : List Term} (law : Splits f ts) where
    -- a sum over all atoms, seen from an atom of s, and from one of t
    pub seen_first : (c : ℕ) → c ≤ s.atoms → seen_by (joined_by s t a b) c f ≡ seen_by s c f + products ts (λ u. u (s.far a c)) (seen_by t b)
    unfolding joined_by seen_by
    seen_first c h =
        sum_split s.atoms t.atoms (λ j. f (far_joined s t a b c j))
        ∙ ap₂ ◌+◌ (sum_cong s.atoms (λ j w. ap f (far_first c j h w.high)))
        (sum_cong t.atoms (λ j w. ap f (far_cross c j h w.low) ∙ law.across (s.far a c) (t.far b j)) ∙ products_far ts (λ u. u (s.far a c)) t.atoms (t.far b))

    pub seen_second : (c : ℕ) → 1 ≤ c → seen_by (joined_by s t a b) (s.atoms + c) f ≡ seen_by t c f + products ts (λ u. u (t.far b c)) (seen_by s a)
    unfolding joined_by seen_by
    seen_second c h =
        sum_split s.atoms t.atoms (λ j. f (far_joined s t a b (s.atoms + c) j))
        ∙ ap₂ ◌+◌
        (sum_cong s.atoms (λ j w. ap f (far_back c j h w.high) ∙ law.across (t.far b c) (s.far a j)) ∙ products_far ts (λ u. u (t.far b c)) s.atoms (s.far a))
        (sum_cong t.atoms (λ j w. ap f (far_second c j h w.low)))
        ∙ omega arith

    -- the sum over all pairs
    pub total-joined : total_by (joined_by s t a b) f ≡ total_by s f + total_by t f + products ts (seen_by s a) (seen_by t b)
    unfolding joined_by total_by seen_by
    total-joined =
        sum_pairs_split s.atoms t.atoms (λ i j. f (far_joined s t a b i j))
        ∙ ap₂ ◌+◌
        (ap₂ ◌+◌ (sum_pairs_cong s.atoms (λ i j w v. ap f (far_first i j w.high v.high))) (sum_pairs_cong t.atoms (λ i j w v. ap f (far_second i j w.low v.low))))
        (sum_cong s.atoms (λ i w. sum_cong t.atoms (λ j v. ap f (far_cross i j w.high v.low) ∙ law.across (s.far a i) (t.far b j)) ∙ products_far ts (λ u. u (s.far a i)) t.atoms (t.far b))
        ∙ products_near ts (seen_by t b) s.atoms (s.far a))

  -- the largest seen from an atom of s, and from one of t; of all pairs
  pub farthest_first : (c : ℕ) → c ≤ s.atoms → 1 ≤ t.atoms → farthest_by (joined_by s t a b) c ≡ max (farthest_by s c) (s.far a c + 1 + farthest_by t b)
  unfolding joined_by farthest_by
  farthest_first c h p =
      most_split s.atoms t.atoms (far_joined s t a b c)
      ∙ ap₂ max (most_cong s.atoms (λ j w. far_first c j h w.high)) (most_cong t.atoms (λ j w. far_cross c j h w.low) ∙ most_add t.atoms (t.far b) (s.far a c + 1) p)

  pub farthest_second : (c : ℕ) → 1 ≤ c → 1 ≤ s.atoms → farthest_by (joined_by s t a b) (s.atoms + c) ≡ max (farthest_by t c) (t.far b c + 1 + farthest_by s a)
  unfolding joined_by farthest_by
  farthest_second c h p =
      most_split s.atoms t.atoms (far_joined s t a b (s.atoms + c))
      ∙ ap₂ max (most_cong s.atoms (λ j w. far_back c j h w.high) ∙ most_add s.atoms (s.far a) (t.far b c + 1) p) (most_cong t.atoms (λ j w. far_second c j h w.low))
      ∙ omega arith

  pub largest-joined : 1 ≤ s.atoms → 1 ≤ t.atoms → largest_by (joined_by s t a b) ≡ max (max (largest_by s) (largest_by t)) (farthest_by s a + 1 + farthest_by t b)
  unfolding joined_by largest_by farthest_by
  largest-joined p q =
      most_pairs_split s.atoms t.atoms (far_joined s t a b)
      ∙ ap₂ max (ap₂ max (most_pairs_cong s.atoms (λ i j w v. far_first i j w.high v.high)) (most_pairs_cong t.atoms (λ i j w v. far_second i j w.low v.low)))
      (most_cong s.atoms (λ i w. most_cong t.atoms (λ j v. far_cross i j w.high v.low) ∙ most_add t.atoms (t.far b) (s.far a i + 1) q ∙ turn (s.far a i) (most t.atoms (t.far b)))
      ∙ most_add s.atoms (s.far a) (1 + most t.atoms (t.far b)) p
      ∙ sym (turn (most s.atoms (s.far a)) (most t.atoms (t.far b))))
    where
      turn : (x y : ℕ) → x + 1 + y ≡ 1 + y + x
      turn x y = omega arith
