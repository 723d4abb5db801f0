-- Laws. Positions below the number of products and choices of one candidate for each site are one to one. Assumes nothing.
use Rattle.std.specs.Prelude.{ℕ, zero, suc, ◌+◌, ◌*◌, ◌/◌, ◌%◌, ◌<◌, List, [], ◌∷◌, ◌≡◌, refl}
use Rattle.std.proofs.Common.{sym, ◌∙◌, ap, ap₂, mod-lt, mod-eq_of_lt, div-add-mod', div-lt_iff_lt-mul, arith}
use Rattle.std.proofs.Math.Nat.{div-eq_of_lt, mul-add-div_right, mul-add-mod_self_right}
use Rattle.catalogue.specs.Products.{products, choice_at}
use Rattle.catalogue.specs.declared.Site.{Site}

-- a choice: an index of a candidate for each site
unfoldable pub IsChoice : List Site → List ℕ → Type 0
IsChoice [] [] = Unit {0}
IsChoice [] (j ∷ js) = ⊥
IsChoice (s ∷ ss) [] = ⊥
IsChoice (s ∷ ss) (j ∷ js) = (j < s.many) × IsChoice ss js

-- the position of a choice
unfoldable pub position_of : List Site → List ℕ → ℕ
position_of [] js = 0
position_of (s ∷ ss) [] = 0
position_of (s ∷ ss) (j ∷ js) = position_of ss js * s.many + j

-- a product of two numbers that is above another number has no factor 0
positive : (x m n : ℕ) → n < x * m → 0 < m
positive x zero n h = absurd (omega arith)
positive x (suc m) n h = omega arith

below : (s : Site) (ss : List Site) (p : ℕ) → p < products (s ∷ ss) → (0 < s.many) × (p / s.many < products ss)
unfolding products
below s ss p h = let m = positive (products ss) s.many p h in (m, (div-lt_iff_lt-mul m).1 h)

pub is_choice : (ss : List Site) (p : ℕ) → p < products ss → IsChoice ss (choice_at ss p)
unfolding IsChoice choice_at
is_choice [] p h = tt
is_choice (s ∷ ss) p h = let (m, l) = below s ss p h in (mod-lt p m, is_choice ss (p / s.many) l)

pub position_back : (ss : List Site) (p : ℕ) → p < products ss → position_of ss (choice_at ss p) ≡ p
unfolding products choice_at position_of
position_back [] p h = omega arith
position_back (s ∷ ss) p h =
    let (m, l) = below s ss p h in
    ap (λ (q : ℕ). q * s.many + p % s.many) (position_back ss (p / s.many) l) ∙ div-add-mod' p s.many

pub position_below : (ss : List Site) (js : List ℕ) → IsChoice ss js → position_of ss js < products ss
unfolding IsChoice products position_of
position_below [] [] c = omega arith
position_below [] (j ∷ js) c = absurd c
position_below (s ∷ ss) [] c = absurd c
position_below (s ∷ ss) (j ∷ js) c = room (position_of ss js) (products ss) s.many j (position_below ss js c.1) c.0
  where
    room : (q n m j : ℕ) → q < n → j < m → q * m + j < n * m
    room q zero m j h l = absurd (omega arith)
    room q (suc n) m j h l = let e : q * m < n * m + 1 = less q n m (omega arith) in omega (arith, e)
      where
        less : (q n m : ℕ) → q < n + 1 → q * m < n * m + 1
        less zero n m h = omega arith
        less (suc q) zero m h = absurd (omega arith)
        less (suc q) (suc n) m h = omega (arith, less q n m (omega arith))

pub choice_back : (ss : List Site) (js : List ℕ) → IsChoice ss js → choice_at ss (position_of ss js) ≡ js
unfolding IsChoice choice_at position_of
choice_back [] [] c = refl
choice_back [] (j ∷ js) c = absurd c
choice_back (s ∷ ss) [] c = absurd c
choice_back (s ∷ ss) (j ∷ js) c =
    let m = s.many in
    let q = position_of ss js in
    let r : (q * m + j) % m ≡ j = mul-add-mod_self_right q m j ∙ mod-eq_of_lt c.0 in
    let d : (q * m + j) / m ≡ q = mul-add-div_right (omega (arith, c.0)) q j ∙ omega (arith, div-eq_of_lt {n = j} {m = m} c.0) in
    ap₂ ◌∷◌ r (ap (choice_at ss) d ∙ choice_back ss js c.1)

-- each choice stands at one position, and at no other
pub record Once (ss : List Site) (js : List ℕ) : Type 0 where
  pub position : ℕ
  pub low : position < products ss
  pub chosen : choice_at ss position ≡ js
  pub only : (p : ℕ) → p < products ss → choice_at ss p ≡ js → p ≡ position

pub each_choice_once : (ss : List Site) (js : List ℕ) → IsChoice ss js → Once ss js
each_choice_once ss js c = record {
  position = position_of ss js;
  low = position_below ss js c;
  chosen = choice_back ss js c;
  only = λ p h e. sym (position_back ss p h) ∙ ap (position_of ss) e;
}
