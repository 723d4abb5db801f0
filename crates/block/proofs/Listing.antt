-- What the neighbours say of a relation, and what stays true as a bond joins them. Assumes nothing.
use Prim.Native.Nat.{ℕ, ◌-◌, ◌^◌, ◌<◌}
use mathlib.Core.Bool.{Bool, ◌&&◌, ◌||◌, or-false}
use mathlib.Core.List.{List, ◌∷◌}
use mathlib.Core.Logic.{inl, inr, ⊎_elim}
use mathlib.Core.Path.{◌≡◌, refl, sym, ap, subst⁻¹, subst₂, ◌∙◌}
use native.Mathlib.Decide.{ℕ_discrete}
use native.Mathlib.Omega.{arith}
use borrow.Author.Tests.{eq-eqb, ne_eqb, eqb-true}
use lib.Dec.{eqb}
use lib.Bits.{bit_or, or_lt}
use lib.ListN.{get_or, length-set}
use lib.Pow.{pow-lt}
use lib.Seq.{get_or-set_same, get_or-set_other}
use Rattle.graph.specs.Graph.{Bond, bond, Within, any_joins}
use Rattle.graph.specs.Bonds.{both, both_true, one_of, first_of, second_of, same_test, any_out, any_head, any_tail}
use Rattle.graph.specs.Sets.{has, alone}
use Rattle.graph.specs.SetLaws.{has_or, has-alone}
use Rattle.block.specs.Near.{around, putting, Draws}

-- b joins the neighbours of a: they are then those of a relation that has one step more
module _ (n : ℕ) (R S : ℕ → ℕ → Bool) (near : List ℕ) (D : Draws n R near) (a b : ℕ) (wa : Within n a) (wb : Within n b)
    (more : (u w : ℕ) → S u w ≡ (R u w || (eqb u a && eqb w b))) where
  at_a : around (putting near a b) a ≡ bit_or (around near a) (alone b)
  at_a = get_or-set_same near (a - 1) _ 0 (omega (arith, D.size, D.small))

  drawn' : (u w : ℕ) → Within n u → Within n w → has (around (putting near a b) u) w ≡ S u w
  drawn' u w wu ww = elim (ℕ_discrete u a) [
    | yes e ↦
        ap (λ (x : ℕ). has (around (putting near a b) x) w) e ∙ ap (λ (x : ℕ). has x w) at_a ∙ has_or (around near a) (alone b) w
        ∙ rw (D.drawn a w wa ww, has-alone b w wb.low ww.low, more u w, eq-eqb u a e, e) refl
    | no ne ↦
        ap (λ (x : ℕ). has x w) (get_or-set_other near (a - 1) (u - 1) (bit_or (around near a) (alone b)) 0 (omega arith))
        ∙ rw (D.drawn u w wu ww, more u w, ne_eqb u a ne, or-false (R u w)) refl
  ]

  pub put_draws : Draws n S (putting near a b)
  put_draws = record {
    small = D.small;
    size = length-set near (a - 1) _ ∙ D.size;
    ends = λ u w e. ⊎_elim (λ r. D.ends u w r)
        (λ h. let (x, y) = both (eqb u a) (eqb w b) h in
        subst₂ (λ (p q : ℕ). Within n p × Within n q) (sym (eqb-true u a x)) (sym (eqb-true w b y)) (wa, wb))
        (one_of (R u w) (eqb u a && eqb w b) (sym (more u w) ∙ e));
    drawn = drawn';
    fits = λ p. elim (ℕ_discrete p (a - 1)) [
      | yes e ↦ subst⁻¹ (λ (x : ℕ). get_or (putting near a b) x 0 < 2 ^ n) e (rw at_a (or_lt n (around near a) (alone b) (D.fits (a - 1)) (pow-lt (omega arith))))
      | no ne ↦ rw (get_or-set_other near (a - 1) p (bit_or (around near a) (alone b)) 0 ne) (D.fits p)
    ];
    behind = λ p l. get_or-set_other near (a - 1) p (bit_or (around near a) (alone b)) 0 (omega arith) ∙ D.behind p l;
  }

-- a bond joins the neighbours at both of its ends
module _ (n : ℕ) (bs : List Bond) (near : List ℕ) (D : Draws n (any_joins bs) near) (a b : ℕ) (wa : Within n a) (wb : Within n b) where
  half : ℕ → ℕ → Bool
  half u w = any_joins bs u w || (eqb u a && eqb w b)

  both_ways : (u w : ℕ) → any_joins (bond a b ∷ bs) u w ≡ (half u w || (eqb u b && eqb w a))
  unfolding half
  both_ways u w = same_test (any_joins (bond a b ∷ bs) u w) (half u w || (eqb u b && eqb w a))
      (λ e.
      ⊎_elim
      (⊎_elim
      (λ (p, q). first_of (half u w) (eqb u b && eqb w a) (second_of (any_joins bs u w) (eqb u a && eqb w b) (both_true (eqb u a) (eqb w b) (eq-eqb u a (sym p)) (eq-eqb w b (sym q)))))
      (λ (p, q). second_of (half u w) (eqb u b && eqb w a) (both_true (eqb u b) (eqb w a) (eq-eqb u b (sym q)) (eq-eqb w a (sym p)))))
      (λ p. first_of (half u w) (eqb u b && eqb w a) (first_of (any_joins bs u w) (eqb u a && eqb w b) p))
      (any_out (bond a b) bs u w e))
      (λ e.
      ⊎_elim
      (λ h.
      ⊎_elim (any_tail (bond a b) bs u w)
      (λ x. let (p, q) = both (eqb u a) (eqb w b) x in any_head (bond a b) bs u w (inl (sym (eqb-true u a p), sym (eqb-true w b q))))
      (one_of (any_joins bs u w) (eqb u a && eqb w b) h))
      (λ x. let (p, q) = both (eqb u b) (eqb w a) x in any_head (bond a b) bs u w (inr (sym (eqb-true w a q), sym (eqb-true u b p))))
      (one_of (half u w) (eqb u b && eqb w a) e))

  once_draws : Draws n half (putting near a b)
  unfolding half
  once_draws = put_draws n (any_joins bs) half near D a b wa wb (λ u w. refl)

  pub put_both : Draws n (any_joins (bond a b ∷ bs)) (putting (putting near a b) b a)
  put_both = put_draws n half (any_joins (bond a b ∷ bs)) (putting near a b) once_draws b a wb wa both_ways
