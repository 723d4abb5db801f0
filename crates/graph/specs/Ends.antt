-- Laws. Bonds of which none is listed again: none joins an atom to itself, each atom is joined to as many as it has bonds, and a bond has two ends. Assumes nothing.
use Rattle.std.specs.Prelude.{ℕ, ◌+◌, ◌*◌, true, ◌&&◌, cond, List, [], ◌∷◌, ◌≡◌, eqb, length}
use Rattle.std.proofs.Common.{true≢false, ⊎_elim, sym, ◌∙◌, ap₂, arith, eqb-true}
use Rattle.graph.specs.Graph.{Bond, joins, any_joins, degree, sum}
use Rattle.graph.specs.Bonds.{both, any_out, any_none}
use Rattle.graph.specs.Sums.{sum_cong, sum_add, sum_none, sum_pick}
use Rattle.graph.specs.Notions.{Plain}
use Rattle.graph.specs.Choices.{cond_and, cond_or, cond_swap}
use Rattle.graph.specs.Uses.{join_other}

-- a bond joins its ends one way or the other
pub joins_split : (b : Bond) → (b.one ≡ b.two → ⊥) → (i j x : ℕ) → cond (joins b i j) x 0 ≡ cond (eqb b.one i && eqb b.two j) x 0 + cond (eqb b.one j && eqb b.two i) x 0
unfolding joins
joins_split b apart i j x =
    cond_or (eqb b.one i && eqb b.two j) (eqb b.one j && eqb b.two i) x (λ p q.
    apart (eqb-true b.one i (both (eqb b.one i) (eqb b.two j) p).0 ∙ sym (eqb-true b.two i (both (eqb b.one j) (eqb b.two i) q).1)))

pub plain_apart : (n : ℕ) (bs : List Bond) → Plain n bs → (u v : ℕ) → any_joins bs u v ≡ true → u ≡ v → ⊥
unfolding Plain
plain_apart n [] p u v j e = any_none u v j
plain_apart n (b ∷ bs) p u v j e =
    ⊎_elim (⊎_elim (λ q. p.0.apart (q.0 ∙ e ∙ sym q.1)) (λ q. p.0.apart (q.0 ∙ sym e ∙ sym q.1))) (λ q. plain_apart n bs p.2 u v q e) (any_out b bs u v j)

-- AS MANY BONDS ARE AT AN ATOM AS NEIGHBOURS
pub plain_degree : (n : ℕ) (bs : List Bond) → Plain n bs → (a : ℕ) → sum n (λ j. cond (any_joins bs a j) 1 0) ≡ degree bs a
unfolding any_joins Plain degree
plain_degree n [] p a = sum_none n
plain_degree n (b ∷ bs) p a =
    sum_cong n (λ j w. cond_or (joins b a j) (any_joins bs a j) 1 (λ x y. true≢false (sym y ∙ join_other bs b a j x p.1)))
    ∙ sum_add n (λ j. cond (joins b a j) 1 0) (λ j. cond (any_joins bs a j) 1 0)
    ∙ ap₂ ◌+◌ here (plain_degree n bs p.2 a)
  where
    here : sum n (λ j. cond (joins b a j) 1 0) ≡ cond (eqb b.one a) 1 0 + cond (eqb b.two a) 1 0
    here =
        sum_cong n (λ j w. joins_split b p.0.apart a j 1)
        ∙ sum_add n (λ j. cond (eqb b.one a && eqb b.two j) 1 0) (λ j. cond (eqb b.one j && eqb b.two a) 1 0)
        ∙ ap₂ ◌+◌
        (sum_cong n (λ j w. cond_and (eqb b.one a) (eqb b.two j) 1 ∙ cond_swap (eqb b.one a) (eqb b.two j) 1) ∙ sum_pick n b.two (λ j. cond (eqb b.one a) 1 0) p.0.two)
        (sum_cong n (λ j w. cond_and (eqb b.one j) (eqb b.two a) 1) ∙ sum_pick n b.one (λ j. cond (eqb b.two a) 1 0) p.0.one)

pub plain_ends : (n : ℕ) (bs : List Bond) → Plain n bs → sum n (degree bs) ≡ 2 * length bs
unfolding Plain degree
plain_ends n [] p = sum_none n
plain_ends n (b ∷ bs) p =
    omega (
      arith,
      sum_add n (λ v. cond (eqb b.one v) 1 0 + cond (eqb b.two v) 1 0) (degree bs),
      sum_add n (λ v. cond (eqb b.one v) 1 0) (λ v. cond (eqb b.two v) 1 0),
      sum_pick n b.one (λ v. 1) p.0.one,
      sum_pick n b.two (λ v. 1) p.0.two,
      plain_ends n bs p.2,
    )
