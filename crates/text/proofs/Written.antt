-- Laws. Numbers as they are written, and that they read back. Assumes nothing.
use Prim.Native.Nat.{ℕ, zero, suc, ◌/◌, ◌%◌, ◌<◌, ◌≤◌}
use mathlib.Core.Bool.{Bool, true, false, cond}
use mathlib.Core.List.{List, [], ◌∷◌, ◌++◌}
use mathlib.Core.Path.{◌≡◌, refl, sym, ◌∙◌, ap}
use native.Mathlib.Omega.{arith}
use borrow.Author.Tests.{ne_eqb, le-leb, lt-ltb, le-ltb, ltb-true, ltb-false}
use lib.Dec.{ltb}
use Rattle.text.specs.Text.{blank, is_blank, is_digit, all_digits, is_number, value_from, number_of, shown, decimal_in, decimal, three}

pub no_blank : (n : ℕ) → is_blank (shown n) ≡ false
no_blank n = ne_eqb (shown n) blank (λ z. omega arith)

pub is_digit_lem : (n : ℕ) → is_digit (shown n) ≡ true
is_digit_lem n = rw (le-leb 48 (shown n) (omega arith), le-leb (shown n) 57 (omega arith))

-- digit by digit
decimal_few : (f n : ℕ) → n < 10 → decimal_in f n ≡ shown n ∷ []
unfolding decimal_in
decimal_few zero n h = let e : n % 10 ≡ n = omega arith in rw e
decimal_few (suc f) n h = let e : n % 10 ≡ n = omega arith in rw (lt-ltb n 10 h, decimal_in) (rw e)

decimal_more : (f n : ℕ) → 10 ≤ n → decimal_in (suc f) n ≡ decimal_in f (n / 10) ++ (shown n ∷ [])
unfolding decimal_in
decimal_more f n h = rw (le-ltb n 10 h, decimal_in)

pub decimal_one : (n : ℕ) → n < 10 → decimal n ≡ shown n ∷ []
unfolding decimal
decimal_one n h = decimal_few 19 n h

pub decimal_two : (n : ℕ) → 10 ≤ n → n < 100 → decimal n ≡ shown (n / 10) ∷ shown n ∷ []
unfolding decimal
decimal_two n l h = decimal_more 18 n l ∙ ap (λ (xs : List ℕ). xs ++ (shown n ∷ [])) (decimal_few 18 (n / 10) (omega arith))

pub decimal_three : (n : ℕ) → 100 ≤ n → n < 1000 → decimal n ≡ shown (n / 100) ∷ shown (n / 10) ∷ shown n ∷ []
unfolding decimal
decimal_three n l h =
    let e : n / 10 / 10 ≡ n / 100 = omega arith in
    let hundreds : decimal_in 17 (n / 10 / 10) ≡ shown (n / 100) ∷ [] = decimal_few 17 (n / 10 / 10) (omega arith) ∙ ap (λ (k : ℕ). shown k ∷ []) e in
    decimal_more 18 n (omega arith)
    ∙ ap (λ (xs : List ℕ). xs ++ (shown n ∷ [])) (decimal_more 17 (n / 10) (omega arith) ∙ ap (λ (xs : List ℕ). xs ++ (shown (n / 10) ∷ [])) hundreds)

-- as the code has them
pub one_digit : (n : ℕ) {a : ℕ} → n < 10 → a ≡ shown n → a ∷ [] ≡ decimal n
one_digit n h p = rw p (sym (decimal_one n h))

pub two_digits : (n : ℕ) {a b : ℕ} → 10 ≤ n → n < 100 → a ≡ shown (n / 10) → b ≡ shown n → a ∷ b ∷ [] ≡ decimal n
two_digits n l h p q = rw (p, q) (sym (decimal_two n l h))

pub three_digits : (n : ℕ) {a b c : ℕ} → 100 ≤ n → n < 1000 → a ≡ shown (n / 100) → b ≡ shown (n / 10) → c ≡ shown n → a ∷ b ∷ c ∷ [] ≡ decimal n
three_digits n l h p q r = rw (p, q, r) (sym (decimal_three n l h))

-- three characters
pub three_is : (n : ℕ) {a b c : ℕ} → a ≡ cond (ltb n 100) blank (shown (n / 100)) → b ≡ cond (ltb n 10) blank (shown (n / 10)) → c ≡ shown n → a ∷ b ∷ c ∷ [] ≡ three n
unfolding three
three_is n p q r = rw (p, q, r)

-- they read back
pub three_back : (n : ℕ) → n < 1000 → (is_number (three n) ≡ true) × (number_of (three n) ≡ n)
unfolding three is_number all_digits number_of value_from
three_back n l = go (ltb n 100) (ltb n 10) refl refl
  where
    go : (s t : Bool) → ltb n 100 ≡ s → ltb n 10 ≡ t
        → (is_number (cond s blank (shown (n / 100)) ∷ cond t blank (shown (n / 10)) ∷ shown n ∷ []) ≡ true) × (number_of (cond s blank (shown (n / 100)) ∷ cond t blank (shown (n / 10)) ∷ shown n ∷ []) ≡ n)
    go true true p q = let h = ltb-true n 10 q in (rw (no_blank n, is_digit_lem n), rw (no_blank n) (omega arith))
    go true false p q =
        let h = ltb-true n 100 p in
        (rw (no_blank (n / 10), is_digit_lem (n / 10), is_digit_lem n), rw (no_blank (n / 10)) (omega arith))
    go false true p q = absurd (omega (arith, ltb-false n 100 p, ltb-true n 10 q))
    go false false p q =
        (rw (no_blank (n / 100), is_digit_lem (n / 100), is_digit_lem (n / 10), is_digit_lem n), rw (no_blank (n / 100)) (omega arith))
