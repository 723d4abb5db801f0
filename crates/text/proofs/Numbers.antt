-- Laws. Numbers of one, two and three characters, test by test. Assumes nothing.
use Prim.Native.Nat.{ℕ, ◌+◌, ◌*◌, ◌≤◌}
use mathlib.Core.Bool.{Bool, true, false, ◌&&◌, cond}
use mathlib.Core.List.{List, [], ◌∷◌}
use mathlib.Core.Path.{◌≡◌, refl}
use native.Mathlib.Omega.{arith}
use borrow.Author.Tests.{ne_eqb, leb-true}
use lib.Dec.{leb}
use Rattle.text.specs.Text.{is_blank, is_digit, digit, all_digits, is_number, value_from, number_of}
use Rattle.text.specs.Said.{no_number, field_number}

first : (p q : Bool) → (p && q) ≡ true → p ≡ true
first true q e = refl
first false q e = e

-- a digit is no blank
pub not_blank : (b : ℕ) → is_digit b ≡ true → is_blank b ≡ false
not_blank b e = let l : 48 ≤ b = leb-true 48 b (first (leb 48 b) (leb b 57) e) in ne_eqb b 32 (λ z. omega arith)

pub one_digit : (c : ℕ) → is_digit c ≡ true → field_number (c ∷ []) ≡ digit c
unfolding field_number is_number all_digits number_of value_from
one_digit c e = rw (not_blank c e, e) (omega arith)

pub one_none : (c : ℕ) → is_digit c ≡ false → field_number (c ∷ []) ≡ no_number
unfolding field_number is_number all_digits
one_none c e = rw e (go (is_blank c) (number_of (c ∷ [])))
  where
    go : (t : Bool) (n : ℕ) → cond (cond t false false) n no_number ≡ no_number
    go true n = refl
    go false n = refl

-- a blank more
pub one_blank : (b : ℕ) (xs : List ℕ) → is_blank b ≡ true → field_number (b ∷ xs) ≡ field_number xs
unfolding field_number is_number number_of
one_blank b xs e = rw e

module _ (b : ℕ) (xs : List ℕ) (n : is_blank b ≡ false) where
  -- no digit where one is due
  pub no_digit : is_digit b ≡ false → field_number (b ∷ xs) ≡ no_number
  unfolding field_number is_number
  no_digit e = rw (n, e)

  pub no_digits : all_digits xs ≡ false → field_number (b ∷ xs) ≡ no_number
  unfolding field_number is_number
  no_digits e = rw (n, e) (go (is_digit b) (number_of (b ∷ xs)))
    where
      go : (t : Bool) (v : ℕ) → cond (t && false) v no_number ≡ no_number
      go true v = refl
      go false v = refl

  pub all_digits_lem : is_digit b ≡ true → all_digits xs ≡ true → field_number (b ∷ xs) ≡ value_from (10 * 0 + digit b) xs
  unfolding field_number is_number number_of value_from
  all_digits_lem e f = rw (n, e, f)

-- the digits behind
pub behind_one : (c : ℕ) (t : Bool) → is_digit c ≡ t → all_digits (c ∷ []) ≡ t
unfolding all_digits
behind_one c true e = rw e
behind_one c false e = rw e

pub behind_none : (b c : ℕ) → is_digit b ≡ false → all_digits (b ∷ c ∷ []) ≡ false
unfolding all_digits
behind_none b c e = rw e

pub behind_two : (b c : ℕ) (t : Bool) → is_digit b ≡ true → is_digit c ≡ t → all_digits (b ∷ c ∷ []) ≡ t
unfolding all_digits
behind_two b c true e f = rw (e, f)
behind_two b c false e f = rw (e, f)

pub value_two : (b c : ℕ) → value_from (10 * 0 + digit b) (c ∷ []) ≡ 10 * digit b + digit c
unfolding value_from
value_two b c = omega arith

pub value_three : (a b c : ℕ) → value_from (10 * 0 + digit a) (b ∷ c ∷ []) ≡ 10 * (10 * digit a + digit b) + digit c
unfolding value_from
value_three a b c = omega arith
