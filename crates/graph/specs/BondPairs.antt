-- Laws. A sum over bonds is a sum over the pairs that are bonded, where no bond is listed again: so it does not depend on the order of the list. Assumes nothing.
use Rattle.std.specs.Prelude.{ℕ, ◌+◌, Bool, false, ◌&&◌, cond, List, [], ◌∷◌, ◌≡◌, eqb}
use Rattle.std.proofs.Common.{true≢false, ⊎_elim, sym, ◌∙◌, ap, ap₂, arith}
use Rattle.graph.specs.Graph.{Bond, bond, Within, joins, any_joins, sum, sum_pairs, sum_bonds}
use Rattle.graph.specs.Bonds.{joins_out, joins_sym}
use Rattle.graph.specs.Distance.{not_true}
use Rattle.graph.specs.Matched.{Mutual, pairs_twice}
use Rattle.graph.specs.Sums.{sum_cong, sum_add, sum_none, sum_swap, sum_pick, sum_pairs_cong, sum_pairs_add, sum_pairs_none}
use Rattle.graph.specs.Notions.{BondInside, Plain}
use Rattle.graph.specs.Choices.{cond_and, cond_or, cond-sum}
use Rattle.graph.specs.Uses.{join_other}
use Rattle.graph.specs.Ends.{joins_split}

-- what f gives for two atoms, taken as a bond
abbrev pub of_ends : (Bond → ℕ) → ℕ → ℕ → ℕ
of_ends f u v = f (bond u v)

-- of all ordered pairs one
picked : (n a b : ℕ) (f : ℕ → ℕ → ℕ) → Within n a → Within n b → sum n (λ i. sum n (λ j. cond (eqb a i && eqb b j) (f i j) 0)) ≡ f a b
picked n a b f ha hb =
    sum_cong n (λ i w. sum_cong n (λ j v. cond_and (eqb a i) (eqb b j) (f i j)) ∙ sym (cond-sum n (eqb a i) (λ j. cond (eqb b j) (f i j) 0)))
    ∙ sum_pick n a (λ i. sum n (λ j. cond (eqb b j) (f i j) 0)) ha
    ∙ sum_pick n b (f a) hb

-- of the pairs i < j the one that a bond joins
one_bond : (n : ℕ) (b : Bond) → BondInside n b → (f : Bond → ℕ) → Mutual n (of_ends f) → sum_pairs n (λ i j. cond (joins b i j) (f (bond i j)) 0) ≡ f b
one_bond n b t f s =
    omega (
      arith,
      pairs_twice n (λ i j. cond (joins b i j) (f (bond i j)) 0) (record { either = λ i j w v. ap₂ (λ (x : Bool) (y : ℕ). cond x y 0) (joins_sym b i j) (s.either i j w v) }),
      sum_cong n {f = λ i. cond (joins b i i) (f (bond i i)) 0} {h = λ i. 0} (λ i w. ap (λ (x : Bool). cond x (f (bond i i)) 0) (self i)) ∙ sum_none n,
      all,
      s.either b.one b.two t.one t.two,
    )
  where
    self : (i : ℕ) → joins b i i ≡ false
    self i = not_true (joins b i i) (λ e. ⊎_elim (λ q. t.apart (q.0 ∙ sym q.1)) (λ q. t.apart (q.0 ∙ sym q.1)) (joins_out b i i e))

    first : ℕ → ℕ → Bool
    first i j = eqb b.one i && eqb b.two j

    all : sum n (λ i. sum n (λ j. cond (joins b i j) (f (bond i j)) 0)) ≡ f b + f (bond b.two b.one)
    all =
        sum_cong n (λ i w. sum_cong n (λ j v. joins_split b t.apart i j (f (bond i j))) ∙ sum_add n (λ j. cond (first i j) (f (bond i j)) 0) (λ j. cond (first j i) (f (bond i j)) 0))
        ∙ sum_add n (λ i. sum n (λ j. cond (first i j) (f (bond i j)) 0)) (λ i. sum n (λ j. cond (first j i) (f (bond i j)) 0))
        ∙ ap₂ ◌+◌ (picked n b.one b.two (of_ends f) t.one t.two)
        (sum_swap n n (λ i j. cond (first j i) (f (bond i j)) 0) ∙ picked n b.one b.two (λ j i. f (bond i j)) t.one t.two)

-- THE LAW: the bonds are the pairs that are bonded
pub over_pairs : (n : ℕ) (bs : List Bond) → Plain n bs → (f : Bond → ℕ) → Mutual n (of_ends f) → sum_bonds bs f ≡ sum_pairs n (λ i j. cond (any_joins bs i j) (f (bond i j)) 0)
unfolding sum_bonds any_joins Plain
over_pairs n [] p f s = sym (sum_pairs_none n)
over_pairs n (b ∷ bs) p f s =
    ap₂ ◌+◌ (sym (one_bond n b p.0 f s)) (over_pairs n bs p.2 f s)
    ∙ sym (sum_pairs_add n (λ i j. cond (joins b i j) (f (bond i j)) 0) (λ i j. cond (any_joins bs i j) (f (bond i j)) 0))
    ∙ sum_pairs_cong n (λ i j w v. sym (cond_or (joins b i j) (any_joins bs i j) (f (bond i j)) (λ x y. true≢false (sym y ∙ join_other bs b i j x p.1))))
