-- Laws. Where the numbers of two ranges are matched, a sum over the one range is a sum over the other, and so are a sum over pairs and the largest of some numbers. Assumes nothing.
use Rattle.std.specs.Prelude.{ℕ, Bool, cond, ◌≡◌, eqb}
use Rattle.std.proofs.Common.{sym, ◌∙◌, ap, arith, eqb-true, eq-eqb}
use Rattle.graph.specs.Graph.{Within, sum, sum_pairs}
use Rattle.graph.specs.Farthest.{most}
use Rattle.graph.specs.Matching.{Matching}
use Rattle.graph.specs.Bonds.{same_test}
use Rattle.graph.specs.Sums.{sum_cong, sum_const, sum_swap, sum_pick, sum_pairs_cong}
use Rattle.graph.specs.Largest.{most_over, most_below}
use Rattle.graph.specs.Matched.{Mutual, pairs_twice}

-- the other way round
abbrev pub turned : {n m : ℕ} → Matching n m → Matching m n
turned p = record { to = p.back; back = p.to; there = p.here; here = p.there; home = p.away; away = p.home }

module _ {n m : ℕ} (p : Matching n m) where
  -- two numbers are the same exactly where their partners are
  pub eqb-to : (u v : ℕ) → Within n u → Within n v → eqb u v ≡ eqb (p.to u) (p.to v)
  eqb-to u v hu hv =
      same_test (eqb u v) (eqb (p.to u) (p.to v)) (λ e. eq-eqb (p.to u) (p.to v) (ap p.to (eqb-true u v e)))
      (λ e. eq-eqb u v (sym (p.home u hu) ∙ ap p.back (eqb-true (p.to u) (p.to v) e) ∙ p.home v hv))

  eqb_across : (i j : ℕ) → Within n i → Within m j → eqb (p.to i) j ≡ eqb (p.back j) i
  eqb_across i j hi hj =
      same_test (eqb (p.to i) j) (eqb (p.back j) i) (λ e. eq-eqb (p.back j) i (ap p.back (sym (eqb-true (p.to i) j e)) ∙ p.home i hi))
      (λ e. eq-eqb (p.to i) j (ap p.to (sym (eqb-true (p.back j) i e)) ∙ p.away j hj))

  -- THE LAW: a sum over one range is the sum over the other
  sum_to : (f : ℕ → ℕ) → sum n (λ i. f (p.to i)) ≡ sum m f
  sum_to f =
      sum_cong n (λ i w. sym (sum_pick m (p.to i) f (p.there i w)))
      ∙ sum_swap n m (λ i j. cond (eqb (p.to i) j) (f j) 0)
      ∙ sum_cong m (λ j w. sum_cong n (λ i x. ap (λ (t : Bool). cond t (f j) 0) (eqb_across i j x w)) ∙ sum_pick n (p.back j) (λ i. f j) (p.here j w))

  pub sum_same : {f : ℕ → ℕ} (h : ℕ → ℕ) → ((i : ℕ) → Within n i → f i ≡ h (p.to i)) → sum n f ≡ sum m h
  sum_same h e = sum_cong n e ∙ sum_to h

  -- so there are as many
  pub same_size : n ≡ m
  same_size = omega (arith, sum_to (λ i. 1), sum_const n 1, sum_const m 1)

  -- and over pairs
  pairs_to : (f : ℕ → ℕ → ℕ) → Mutual m f → sum_pairs n (λ i j. f (p.to i) (p.to j)) ≡ sum_pairs m f
  pairs_to f s =
      omega (
        arith,
        pairs_twice n (λ i j. f (p.to i) (p.to j)) (record { either = λ i j w v. s.either (p.to i) (p.to j) (p.there i w) (p.there j v) }),
        pairs_twice m f s,
        sum_cong n (λ i w. sum_to (f (p.to i))) ∙ sum_to (λ i. sum m (f i)),
        sum_to (λ i. f i i),
      )

  pub pairs_same : {f : ℕ → ℕ → ℕ} (h : ℕ → ℕ → ℕ) → Mutual m h → ((i j : ℕ) → Within n i → Within n j → f i j ≡ h (p.to i) (p.to j)) → sum_pairs n f ≡ sum_pairs m h
  pairs_same h s e = sum_pairs_cong n e ∙ pairs_to h s

  -- the largest of some numbers
  pub most_same : {f : ℕ → ℕ} (h : ℕ → ℕ) → ((i : ℕ) → Within n i → f i ≡ h (p.to i)) → most n f ≡ most m h
  most_same {f} h e =
      omega (
        arith,
        most_below n f (most m h) (λ i w. omega (arith, e i w, most_over m h (p.to i) (p.there i w))),
        most_below m h (most n f) (λ j w. omega (arith, e (p.back j) (p.here j w), ap h (p.away j w), most_over n f (p.back j) (p.here j w))),
      )
