-- Laws. All ordered pairs are the pairs i < j twice, and each number with itself. Assumes nothing.
use Rattle.std.specs.Prelude.{ℕ, zero, suc, ◌+◌, ◌≡◌, refl}
use Rattle.std.proofs.Common.{arith}
use Rattle.graph.specs.Graph.{Within, sum, sum_pairs}
use Rattle.graph.specs.Sums.{wider, last, sum_cong, sum_add}

-- what two numbers give does not depend on which comes first
pub record Mutual (n : ℕ) (f : ℕ → ℕ → ℕ) : Type 0 where
  pub either : (i j : ℕ) → Within n i → Within n j → f i j ≡ f j i

-- all ordered pairs are the pairs i < j twice, and each number with itself
pub pairs_twice : (n : ℕ) (f : ℕ → ℕ → ℕ) → Mutual n f → sum_pairs n f + sum_pairs n f + sum n (λ i. f i i) ≡ sum n (λ i. sum n (λ j. f i j))
unfolding sum sum_pairs
pairs_twice zero f s = refl
pairs_twice (suc n) f s =
    omega (
      arith,
      pairs_twice n f (record { either = λ i j w v. s.either i j (wider w) (wider v) }),
      sum_add n (λ i. sum n (λ j. f i j)) (λ i. f i (suc n)),
      sum_cong n {f = λ i. f i (suc n)} {h = λ i. f (suc n) i} (λ i w. s.either i (suc n) (wider w) (last n)),
    )
