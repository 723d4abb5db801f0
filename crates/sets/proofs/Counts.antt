-- Laws. Counts over all sets. Assumes nothing.
use Prim.Native.Nat.{ℕ, ◌+◌, ◌^◌, ◌≤◌, ◌<◌}
use mathlib.Core.Bool.{Bool, true, false, ◌||◌, cond, or-true}
use mathlib.Core.List.{List, [], ◌∷◌, ◌++◌}
use mathlib.Core.Path.{◌≡◌, refl, sym, ap, ap₂, ◌∙◌}
use native.Mathlib.Nat.{two-pow-succ}
use native.Mathlib.Omega.{arith}
use lib.ListN.{length}
use Rattle.graph.specs.Graph.{Bond, Within}
use Rattle.sets.specs.Sets.{with_one, subsets, passing, some}

-- bonds between two atoms of 1 to n
abbrev pub Proper : ℕ → List Bond → Type 0
Proper n [] = Unit {0}
Proper n (b ∷ bs) = Within n b.one × Within n b.two × (b.one ≡ b.two → ⊥) × Proper n bs

count_append : {A : Type 0} (p : A → Bool) (xs ys : List A) → passing p (xs ++ ys) ≡ passing p xs + passing p ys
unfolding passing
count_append p [] ys = omega arith
count_append p (x ∷ xs) ys = omega (arith, count_append p xs ys)

module _ {A : Type 0} where
  pub count_cong : (xs : List A) {p q : A → Bool} → ((x : A) → p x ≡ q x) → passing p xs ≡ passing q xs
  unfolding passing
  count_cong [] e = refl
  count_cong (x ∷ xs) e = ap₂ (λ (t : Bool) (k : ℕ). cond t 1 0 + k) (e x) (count_cong xs e)

  pub count_none : (xs : List A) → passing (λ x. false) xs ≡ 0
  unfolding passing
  count_none [] = refl
  count_none (x ∷ xs) = omega (arith, count_none xs)

  count_with : (p : List A → Bool) (x : A) (ss : List (List A)) → passing p (with_one x ss) ≡ passing (λ s. p (x ∷ s)) ss
  unfolding passing with_one
  count_with p x [] = refl
  count_with p x (s ∷ ss) = ap (λ (k : ℕ). cond (p (x ∷ s)) 1 0 + k) (count_with p x ss)

  pub some_cong : (xs : List A) {p q : A → Bool} → ((x : A) → p x ≡ q x) → some p xs ≡ some q xs
  unfolding some
  some_cong [] e = refl
  some_cong (x ∷ xs) e = ap₂ ◌||◌ (e x) (some_cong xs e)

  -- the sets without the first member, and those with it
  pub count_first : (p : List A → Bool) (x : A) (xs : List A) → passing p (subsets (x ∷ xs)) ≡ passing p (subsets xs) + passing (λ s. p (x ∷ s)) (subsets xs)
  unfolding subsets
  count_first p x xs = count_append p (subsets xs) (with_one x (subsets xs)) ∙ ap (λ (k : ℕ). passing p (subsets xs) + k) (count_with p x (subsets xs))

  pub count_empty : (p : List A → Bool) → passing p (subsets []) ≡ cond (p []) 1 0
  unfolding subsets passing
  count_empty p = omega arith

  -- there are 2 to the power of the members
  pub count_all : (xs : List A) → passing (λ s. true) (subsets xs) ≡ 2 ^ length xs
  count_all [] = count_empty (λ s. true)
  count_all (x ∷ xs) = omega (arith, count_first (λ s. true) x xs, count_all xs, two-pow-succ (length xs))

  -- no more than these pass, whatever is asked
  pub count_most : (p : List A → Bool) (xs : List A) → passing p (subsets xs) ≤ 2 ^ length xs
  count_most p [] = omega (arith, count_empty p, one (p []))
    where
      one : (t : Bool) → cond t 1 0 ≤ 1
      one true = omega arith
      one false = omega arith
  count_most p (x ∷ xs) = omega (arith, count_first p x xs, count_most p xs, count_most (λ s. p (x ∷ s)) xs, two-pow-succ (length xs))

  -- and fewer where the set of all members does not pass
  pub count_less : (p : List A → Bool) (xs : List A) → p xs ≡ false → passing p (subsets xs) < 2 ^ length xs
  count_less p [] e = omega (arith, count_empty p, ap (λ (t : Bool). cond {A = ℕ} t 1 0) e)
  count_less p (x ∷ xs) e = omega (arith, count_first p x xs, count_most p xs, count_less (λ s. p (x ∷ s)) xs e, two-pow-succ (length xs))

pub or_four : (a b c d : Bool) → ((a || b) || (c || d)) ≡ ((a || c) || (b || d))
or_four true b c d = refl
or_four false true c d = sym (or-true c)
or_four false false c d = refl

pub some_or : {A : Type 0} (p q : A → Bool) (xs : List A) → some (λ x. p x || q x) xs ≡ (some p xs || some q xs)
unfolding some
some_or p q [] = refl
some_or p q (x ∷ xs) = ap (λ (t : Bool). (p x || q x) || t) (some_or p q xs) ∙ or_four (p x) (q x) (some p xs) (some q xs)
