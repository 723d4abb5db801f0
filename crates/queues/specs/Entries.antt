-- Laws. What a queue holds under its numbers. Assumes nothing.
use Prim.Native.Nat.{ℕ, suc, ◌≤◌}
use Rattle.std.specs.Prelude.{Bool, ◌&&◌, not}
use Rattle.std.proofs.Math.Bool.{true, false, cond}
use mathlib.Core.List.{List, [], ◌∷◌}
use Rattle.std.proofs.Math.Path.{◌≡◌, refl, sym, ap}
use Rattle.std.proofs.Common.{◌∙◌, arith}
use borrow.Author.Tests.{eq-eqb, ne_eqb, eqb-true, eqb-false}
use Rattle.std.proofs.Math.Dec.{eqb}
use Rattle.std.proofs.Math.ListN.{length}
use Rattle.queues.specs.Model.{Entry, lookup, has, without}

module _ {G : Type 0} (none : G) where
  abbrev pub absent : Entry G
  absent = record { number = 0; goods = none }

  -- no two have one number
  abbrev pub Apart : List (Entry G) → Type 0
  Apart [] = Unit {0}
  Apart (e ∷ q) = (lookup none q e.number ≡ absent) × Apart q

  pub lookup_first : (e : Entry G) (q : List (Entry G)) (x : ℕ) → e.number ≡ x → lookup none (e ∷ q) x ≡ e
  unfolding lookup
  lookup_first e q x h = rw (eq-eqb e.number x h)

  pub lookup_later : (e : Entry G) (q : List (Entry G)) (x : ℕ) → (e.number ≡ x → ⊥) → lookup none (e ∷ q) x ≡ lookup none q x
  unfolding lookup
  lookup_later e q x h = rw (ne_eqb e.number x h)

  -- what is looked up has the number, or is nothing
  pub lookup_miss : (q : List (Entry G)) (x : ℕ) → ((lookup none q x).number ≡ x → ⊥) → lookup none q x ≡ absent
  unfolding lookup
  lookup_miss [] x h = refl
  lookup_miss (e ∷ q) x h = go (eqb e.number x) refl h (lookup_miss q x)
    where
      go : (t : Bool) → eqb e.number x ≡ t → ((cond t e (lookup none q x)).number ≡ x → ⊥) → (((lookup none q x).number ≡ x → ⊥) → lookup none q x ≡ absent) → cond t e (lookup none q x) ≡ absent
      go true p h more = absurd (h (eqb-true e.number x p))
      go false p h more = more h

  module _ (q : List (Entry G)) (x : ℕ) where
    pub has_positive : has none q x ≡ true → 1 ≤ x
    unfolding has
    has_positive h = go (eqb x 0) refl h
      where
        go : (t : Bool) → eqb x 0 ≡ t → (not t && eqb (lookup none q x).number x) ≡ true → 1 ≤ x
        go true e h = let z : ◌≡◌ {A = ℕ} 0 1 = cc in absurd (omega arith)
        go false e h = omega (arith, eqb-false x 0 e)

    pub has-number : has none q x ≡ true → (lookup none q x).number ≡ x
    unfolding has
    has-number h = go (eqb x 0) (eqb (lookup none q x).number x) refl h
      where
        go : (t u : Bool) → eqb (lookup none q x).number x ≡ u → (not t && u) ≡ true → (lookup none q x).number ≡ x
        go true u e h = let z : ◌≡◌ {A = ℕ} 0 1 = cc in absurd (omega arith)
        go false true e h = eqb-true (lookup none q x).number x e
        go false false e h = let z : ◌≡◌ {A = ℕ} 0 1 = cc in absurd (omega arith)

    pub has_by : 1 ≤ x → (lookup none q x).number ≡ x → has none q x ≡ true
    unfolding has
    has_by p e = rw (ne_eqb x 0 (omega arith), eq-eqb (lookup none q x).number x e)

    pub has-none : lookup none q x ≡ absent → has none q x ≡ false
    unfolding has
    has-none e = go (eqb x 0) refl
      where
        go : (t : Bool) → eqb x 0 ≡ t → (not t && eqb (lookup none q x).number x) ≡ false
        go true h = refl
        go false h = rw e (ne_eqb 0 x (λ z. eqb-false x 0 h (sym z)))

    pub not_has : 1 ≤ x → has none q x ≡ false → lookup none q x ≡ absent
    not_has p h = lookup_miss q x (λ e. let z : true ≡ false = sym (has_by p e) ∙ h in let y : ◌≡◌ {A = ℕ} 0 1 = cc in omega arith)

  -- without the block under x
  pub without_other : (q : List (Entry G)) (x y : ℕ) → (x ≡ y → ⊥) → lookup none (without q x) y ≡ lookup none q y
  unfolding without lookup
  without_other [] x y d = refl
  without_other (e ∷ q) x y d = go (eqb e.number x) refl (without_other q x y d)
    where
      go : (t : Bool) → eqb e.number x ≡ t → lookup none (without q x) y ≡ lookup none q y → lookup none (cond t q (e ∷ without q x)) y ≡ lookup none (e ∷ q) y
      go true p more = sym (lookup_later e q y (λ z. d (sym (eqb-true e.number x p) ∙ z)))
      go false p more = ap (λ (r : Entry G). cond (eqb e.number y) e r) more

  pub without_self : (q : List (Entry G)) (x : ℕ) → Apart q → lookup none (without q x) x ≡ absent
  unfolding without lookup
  without_self [] x a = refl
  without_self (e ∷ q) x a = go (eqb e.number x) refl (without_self q x a.1)
    where
      go : (t : Bool) → eqb e.number x ≡ t → lookup none (without q x) x ≡ absent → lookup none (cond t q (e ∷ without q x)) x ≡ absent
      go true p more = ap (lookup none q) (sym (eqb-true e.number x p)) ∙ a.0
      go false p more = lookup_later e (without q x) x (eqb-false e.number x p) ∙ more

  pub without_apart : (q : List (Entry G)) (x : ℕ) → Apart q → Apart (without q x)
  unfolding without
  without_apart [] x a = a
  without_apart (e ∷ q) x a = go (eqb e.number x) refl (without_apart q x a.1)
    where
      go : (t : Bool) → eqb e.number x ≡ t → Apart (without q x) → Apart (cond t q (e ∷ without q x))
      go true p more = a.1
      go false p more = (without_other q x e.number (λ z. eqb-false e.number x p (sym z)) ∙ a.0, more)

  pub without-length : (q : List (Entry G)) (x : ℕ) → 1 ≤ x → (lookup none q x).number ≡ x → suc (length (without q x)) ≡ length q
  unfolding without lookup
  without-length [] x p h = absurd (omega arith)
  without-length (e ∷ q) x p h = go (eqb e.number x) refl h (without-length q x p)
    where
      go : (t : Bool) → eqb e.number x ≡ t → (cond t e (lookup none q x)).number ≡ x → ((lookup none q x).number ≡ x → suc (length (without q x)) ≡ length q) → suc (length (cond t q (e ∷ without q x))) ≡ length (e ∷ q)
      go true d h more = refl
      go false d h more = ap suc (more h)
