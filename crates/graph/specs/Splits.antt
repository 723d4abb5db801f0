-- Laws. What is counted of a distance across a joining bond, x + 1 + y, is a sum of products of what is counted on each side. Assumes nothing.
use Rattle.std.specs.Prelude.{ℕ, zero, suc, ◌+◌, ◌*◌, ◌%◌, Bool, true, false, cond, List, [], ◌∷◌, ◌≡◌, refl}
use Rattle.std.proofs.Common.{◌∙◌, ap, ap₂, arith, eqb-true, eq-eqb, ne_eqb}
use Rattle.std.proofs.lemmas.Bool.{eqb-false}
use Rattle.std.proofs.Math.Dec.{eqb-suc-suc, eqb-suc-zero, eqb-zero-suc}
use Rattle.graph.specs.Graph.{sum, is_even, itself, each, even_of, odd_of, even_one, odd_one, is_at}
use Rattle.graph.specs.Sums.{sum_add, sum_const, sum_scale, sum_scaled}

-- a product of something counted on one side with something counted on the other
pub record Term : Type 0 where
  pub near : ℕ → ℕ
  pub far : ℕ → ℕ

abbrev pub ◌⊗◌ : (ℕ → ℕ) → (ℕ → ℕ) → Term
u ⊗ v = record { near = u; far = v }

infix 90 ◌⊗◌
-- the sum of the products, with p and q to say what a count comes to on each side
unfoldable pub products : List Term → ((ℕ → ℕ) → ℕ) → ((ℕ → ℕ) → ℕ) → ℕ
products [] p q = 0
products (t ∷ ts) p q = p t.near * q t.far + products ts p q

-- f of a distance across the joining bond is a sum of products
pub record Splits (f : ℕ → ℕ) (ts : List Term) : Type 0 where
  pub across : (x y : ℕ) → f (x + 1 + y) ≡ products ts (λ u. u x) (λ v. v y)

-- products add up side by side
pub products_far : (ts : List Term) (p : (ℕ → ℕ) → ℕ) (m : ℕ) (d : ℕ → ℕ) → sum m (λ j. products ts p (λ v. v (d j))) ≡ products ts p (λ v. sum m (λ j. v (d j)))
unfolding products
products_far [] p m d = sum_const m 0 ∙ omega arith
products_far (t ∷ ts) p m d =
    sum_add m (λ j. p t.near * t.far (d j)) (λ j. products ts p (λ v. v (d j)))
    ∙ ap₂ ◌+◌ (sum_scale m (p t.near) (λ j. t.far (d j))) (products_far ts p m d)

pub products_near : (ts : List Term) (q : (ℕ → ℕ) → ℕ) (n : ℕ) (d : ℕ → ℕ) → sum n (λ i. products ts (λ u. u (d i)) q) ≡ products ts (λ u. sum n (λ i. u (d i))) q
unfolding products
products_near [] q n d = sum_const n 0 ∙ omega arith
products_near (t ∷ ts) q n d =
    sum_add n (λ i. t.near (d i) * q t.far) (λ i. products ts (λ u. u (d i)) q)
    ∙ ap₂ ◌+◌ (sum_scaled n (λ i. t.near (d i)) (q t.far)) (products_near ts q n d)

-- How each thing that is counted splits.
pub splits_each : Splits each (each ⊗ each ∷ [])
unfolding products
splits_each = record { across = λ x y. refl }

pub splits_itself : Splits itself (itself ⊗ each ∷ each ⊗ each ∷ each ⊗ itself ∷ [])
unfolding products
splits_itself = record { across = λ x y. omega arith }

-- the parity across: even where the two sides differ
differ : Bool → Bool → Bool
differ true true = false
differ true false = true
differ false true = true
differ false false = false

parity : (x y : ℕ) → is_even (x + 1 + y) ≡ differ (is_even x) (is_even y)
unfolding differ
parity x y = go (is_even x) (is_even y) refl refl
  where
    go : (s t : Bool) → is_even x ≡ s → is_even y ≡ t → is_even (x + 1 + y) ≡ differ s t
    go true true p q = ne_eqb ((x + 1 + y) % 2) 0 (λ e. omega (arith, eqb-true (x % 2) 0 p, eqb-true (y % 2) 0 q))
    go true false p q = let n = eqb-false (y % 2) 0 q in eq-eqb ((x + 1 + y) % 2) 0 (omega (arith, eqb-true (x % 2) 0 p))
    go false true p q = let n = eqb-false (x % 2) 0 p in eq-eqb ((x + 1 + y) % 2) 0 (omega (arith, eqb-true (y % 2) 0 q))
    go false false p q = ne_eqb ((x + 1 + y) % 2) 0 (λ e. omega (arith, eqb-false (x % 2) 0 p, eqb-false (y % 2) 0 q))

-- the four counts by parity, over the two sides' parities
even_of_lem : (s t : Bool) (x y : ℕ) → cond (differ s t) (x + 1 + y) 0
    ≡ cond s x 0 * cond t 0 1 + (cond s 1 0 * cond t 0 1 + (cond s 1 0 * cond t 0 y + (cond s 0 x * cond t 1 0 + (cond s 0 1 * cond t 1 0 + (cond s 0 1 * cond t y 0 + 0)))))
unfolding differ
even_of_lem true true x y = omega arith
even_of_lem true false x y = omega arith
even_of_lem false true x y = omega arith
even_of_lem false false x y = omega arith

pub splits_even : Splits even_of (even_of ⊗ odd_one ∷ even_one ⊗ odd_one ∷ even_one ⊗ odd_of ∷ odd_of ⊗ even_one ∷ odd_one ⊗ even_one ∷ odd_one ⊗ even_of ∷ [])
unfolding products even_of odd_of even_one odd_one
splits_even = record { across = λ x y. ap (λ (t : Bool). cond t (x + 1 + y) 0) (parity x y) ∙ even_of_lem (is_even x) (is_even y) x y }

odd_of_lem : (s t : Bool) (x y : ℕ) → cond (differ s t) 0 (x + 1 + y)
    ≡ cond s x 0 * cond t 1 0 + (cond s 1 0 * cond t 1 0 + (cond s 1 0 * cond t y 0 + (cond s 0 x * cond t 0 1 + (cond s 0 1 * cond t 0 1 + (cond s 0 1 * cond t 0 y + 0)))))
unfolding differ
odd_of_lem true true x y = omega arith
odd_of_lem true false x y = omega arith
odd_of_lem false true x y = omega arith
odd_of_lem false false x y = omega arith

pub splits_odd : Splits odd_of (even_of ⊗ even_one ∷ even_one ⊗ even_one ∷ even_one ⊗ even_of ∷ odd_of ⊗ odd_one ∷ odd_one ⊗ odd_one ∷ odd_one ⊗ odd_of ∷ [])
unfolding products even_of odd_of even_one odd_one
splits_odd = record { across = λ x y. ap (λ (t : Bool). cond t 0 (x + 1 + y)) (parity x y) ∙ odd_of_lem (is_even x) (is_even y) x y }

even_one_lem : (s t : Bool) → cond {A = ℕ} (differ s t) 1 0 ≡ cond s 1 0 * cond t 0 1 + (cond s 0 1 * cond t 1 0 + 0)
unfolding differ
even_one_lem true true = refl
even_one_lem true false = refl
even_one_lem false true = refl
even_one_lem false false = refl

pub splits_even_one : Splits even_one (even_one ⊗ odd_one ∷ odd_one ⊗ even_one ∷ [])
unfolding products even_one odd_one
splits_even_one = record { across = λ x y. ap (λ (t : Bool). cond {A = ℕ} t 1 0) (parity x y) ∙ even_one_lem (is_even x) (is_even y) }

odd_one_lem : (s t : Bool) → cond {A = ℕ} (differ s t) 0 1 ≡ cond s 1 0 * cond t 1 0 + (cond s 0 1 * cond t 0 1 + 0)
unfolding differ
odd_one_lem true true = refl
odd_one_lem true false = refl
odd_one_lem false true = refl
odd_one_lem false false = refl

pub splits_odd_one : Splits odd_one (even_one ⊗ even_one ∷ odd_one ⊗ odd_one ∷ [])
unfolding products even_one odd_one
splits_odd_one = record { across = λ x y. ap (λ (t : Bool). cond {A = ℕ} t 0 1) (parity x y) ∙ odd_one_lem (is_even x) (is_even y) }

-- a distance that is k, one bond nearer, and the ends
at_suc : (k d : ℕ) → is_at (suc k) (suc d) ≡ is_at k d
unfolding is_at
at_suc k d = ap (λ (t : Bool). cond {A = ℕ} t 1 0) (eqb-suc-suc d k)

at_none : (k : ℕ) → is_at (suc k) 0 ≡ 0
unfolding is_at
at_none k = ap (λ (t : Bool). cond {A = ℕ} t 1 0) (eqb-zero-suc k)

at_past : (d : ℕ) → is_at 0 (suc d) ≡ 0
unfolding is_at
at_past d = ap (λ (t : Bool). cond {A = ℕ} t 1 0) (eqb-suc-zero d)

at0 : (x y : ℕ) → is_at 0 (x + 1 + y) ≡ 0
at0 x y = ap (is_at 0) (omega arith) ∙ at_past (x + y)

at_here : is_at 0 0 ≡ 1
unfolding is_at
at_here = refl

at1 : (x y : ℕ) → is_at 1 (x + 1 + y) ≡ is_at 0 x * is_at 0 y + 0
at1 zero y = ap (is_at 1) (omega arith) ∙ at_suc 0 y ∙ simp at_here (omega arith)
at1 (suc x) y = ap (is_at 1) (omega arith) ∙ at_suc 0 (x + 1 + y) ∙ at0 x y ∙ simp at_past (omega arith)

pub splits_at0 : Splits (is_at 0) []
unfolding products
splits_at0 = record { across = at0 }

pub splits_at1 : Splits (is_at 1) (is_at 0 ⊗ is_at 0 ∷ [])
unfolding products
splits_at1 = record { across = at1 }

at2 : (x y : ℕ) → is_at 2 (x + 1 + y) ≡ is_at 0 x * is_at 1 y + (is_at 1 x * is_at 0 y + 0)
at2 zero y = ap (is_at 2) (omega arith) ∙ at_suc 1 y ∙ simp (at_here, at_none 0) (omega arith)
at2 (suc x) y = ap (is_at 2) (omega arith) ∙ at_suc 1 (x + 1 + y) ∙ at1 x y ∙ simp (at_past, at_suc 0) (omega arith)

pub splits_at2 : Splits (is_at 2) (is_at 0 ⊗ is_at 1 ∷ is_at 1 ⊗ is_at 0 ∷ [])
unfolding products
splits_at2 = record { across = at2 }

at3 : (x y : ℕ) → is_at 3 (x + 1 + y) ≡ is_at 0 x * is_at 2 y + (is_at 1 x * is_at 1 y + (is_at 2 x * is_at 0 y + 0))
at3 zero y = ap (is_at 3) (omega arith) ∙ at_suc 2 y ∙ simp (at_here, at_none 0, at_none 1) (omega arith)
at3 (suc x) y = ap (is_at 3) (omega arith) ∙ at_suc 2 (x + 1 + y) ∙ at2 x y ∙ simp (at_past, at_suc 0, at_suc 1) (omega arith)

pub splits_at3 : Splits (is_at 3) (is_at 0 ⊗ is_at 2 ∷ is_at 1 ⊗ is_at 1 ∷ is_at 2 ⊗ is_at 0 ∷ [])
unfolding products
splits_at3 = record { across = at3 }
