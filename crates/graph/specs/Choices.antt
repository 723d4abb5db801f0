-- Laws. A number where a test holds, else 0: how such numbers add and multiply. Assumes nothing.
use Rattle.std.specs.Prelude.{ℕ, ◌+◌, ◌*◌, Bool, true, false, ◌&&◌, ◌||◌, cond, ◌≡◌, refl, eqb}
use Rattle.std.proofs.Common.{sym, arith, eqb-true, eq-eqb, ne_eqb}
use Rattle.std.proofs.lemmas.Bool.{eqb-false}
use Rattle.graph.specs.Graph.{sum}
use Rattle.graph.specs.Sums.{sum_none}

pub eqb_sym : (a b : ℕ) → eqb a b ≡ eqb b a
eqb_sym a b = go (eqb a b) refl
  where
    go : (t : Bool) → eqb a b ≡ t → t ≡ eqb b a
    go true h = sym (eq-eqb b a (sym (eqb-true a b h)))
    go false h = sym (ne_eqb b a (λ e. eqb-false a b h (sym e)))

pub cond_and : (p q : Bool) (x : ℕ) → cond (p && q) x 0 ≡ cond p (cond q x 0) 0
cond_and true q x = refl
cond_and false q x = refl

pub cond_swap : (p q : Bool) (x : ℕ) → cond p (cond q x 0) 0 ≡ cond q (cond p x 0) 0
cond_swap true q x = refl
cond_swap false true x = refl
cond_swap false false x = refl

pub cond_or : (p q : Bool) (x : ℕ) → (p ≡ true → q ≡ true → ⊥) → cond (p || q) x 0 ≡ cond p x 0 + cond q x 0
cond_or true true x h = absurd (h refl refl)
cond_or true false x h = omega arith
cond_or false q x h = omega arith

pub cond_add : (t : Bool) (x y : ℕ) → cond t (x + y) 0 ≡ cond t x 0 + cond t y 0
cond_add true x y = refl
cond_add false x y = refl

pub cond_left : (t : Bool) (x y : ℕ) → cond t x 0 * y ≡ cond t (x * y) 0
cond_left true x y = refl
cond_left false x y = omega arith

pub cond_right : (t : Bool) (x y : ℕ) → x * cond t y 0 ≡ cond t (x * y) 0
cond_right true x y = refl
cond_right false x y = omega arith

pub cond-sum : (n : ℕ) (t : Bool) (f : ℕ → ℕ) → cond t (sum n f) 0 ≡ sum n (λ v. cond t (f v) 0)
cond-sum n true f = refl
cond-sum n false f = sym (sum_none n)
