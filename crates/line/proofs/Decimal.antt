-- `io::decimal` writes what `decimal` says: the fewest digits that hold n are its decimal digits, at most 20 of them.
use mathlib.Core.Path.{◌≡◌, sym, ap, ◌∙◌, subst}
use mathlib.Core.Bool.{Bool, true, false, not, cond}
use mathlib.Core.List.{List, [], ◌∷◌, ◌++◌}
use Prim.Native.Nat.{ℕ, zero, suc, ◌+◌, ◌-◌, ◌*◌, ◌/◌, ◌%◌, ◌^◌, ◌≤◌, ◌<◌}
use native.Mathlib.Nat.{le_trans, lt_of_lt_of_le, not-le_of_lt, le-div_iff_mul-le, div-lt_iff_lt-mul, pow-suc, one-le-pow, mul-le-mul_right, not-suc-le-zero, suc-sub-suc, sub-zero}
use native.Mathlib.Omega.{arith}
use lib.ListN.{length, length-append}
use lib.Dec.{T, ltb, ltb→lt, nltb→le, lit<, lit≤}
use borrow.Author.Tests.{lt-ltb}
use Rattle.io.specs.Digits.{last_digits, hex_digit_ascii, IsDigitCount}
use Rattle.text.specs.Text.{decimal_in, decimal, most_digits}

digit : (d : ℕ) → d < 10 → hex_digit_ascii d ≡ 48 + d
digit d h = ap (λ (b : Bool). cond b (48 + d) (87 + d)) (lt-ltb d 10 h)

-- 10 ^ (k - 1) at k = j + 2
less_one : (j : ℕ) → suc (suc j) - 1 ≡ suc j
less_one j = omega arith

-- with j + 2 digits n is 10 ^ (j + 1) at least
reaches : (n j : ℕ) → IsDigitCount 10 1 n (suc (suc j)) → 10 ^ j * 10 ≤ n
reaches n j F = subst (λ (z : ℕ). z ≤ n) (ap (λ (z : ℕ). 10 ^ z) (less_one j) ∙ pow-suc 10 j) (F.2 (omega arith))

ten : (j : ℕ) → 10 ≤ 10 ^ j * 10
ten j = mul-le-mul_right 10 (one-le-pow j 10 (lit≤ tt))

single : (n k : ℕ) → n < 10 → IsDigitCount 10 1 n k → last_digits 10 k n ≡ (48 + n) ∷ []
single n zero h F = absurd (not-suc-le-zero F.0)
single n (suc zero) h F = let e : n % 10 ≡ n = omega arith in ap (λ (d : ℕ). hex_digit_ascii d ∷ []) e ∙ ap (λ (d : ℕ). d ∷ []) (digit n h)
single n (suc (suc j)) h F = absurd (not-le_of_lt h (le_trans (ten j) (reaches n j F)))

-- n / 10 has one digit fewer
shorter : (n j : ℕ) → IsDigitCount 10 1 n (suc (suc j)) → IsDigitCount 10 1 (n / 10) (suc j)
shorter n j F = (
  omega arith,
  (div-lt_iff_lt-mul (lit< tt)).1 (subst (λ (z : ℕ). n < z) (pow-suc 10 (suc j)) F.1),
  (λ h. subst (λ (z : ℕ). 10 ^ z ≤ n / 10) (sym (suc-sub-suc j 0 ∙ sub-zero j)) ((le-div_iff_mul-le (lit< tt)).1 (reaches n j F))),
)

is_decimal : (f n k : ℕ) → n < 10 ^ suc f → IsDigitCount 10 1 n k → last_digits 10 k n ≡ decimal_in f n
unfolding decimal_in
is_decimal zero n k h F = single n k h F
is_decimal (suc f) n k h F = go (ltb n 10) (ltb→lt n 10) (nltb→le n 10)
    (λ j g. is_decimal f (n / 10) (suc j) ((div-lt_iff_lt-mul (lit< tt)).1 (subst (λ (z : ℕ). n < z) (pow-suc 10 (suc f)) h)) g) k F
  where
    more : (10 ≤ n) → ((j : ℕ) → IsDigitCount 10 1 (n / 10) (suc j) → last_digits 10 (suc j) (n / 10) ≡ decimal_in f (n / 10)) → (i : ℕ) → IsDigitCount 10 1 n i
        → last_digits 10 i n ≡ decimal_in f (n / 10) ++ ((48 + n % 10) ∷ [])
    more l ih zero G = absurd (not-suc-le-zero G.0)
    more l ih (suc zero) G = absurd (not-le_of_lt G.1 l)
    more l ih (suc (suc j)) G =
        ap (λ (t : List ℕ). t ++ (hex_digit_ascii (n % 10) ∷ [])) (ih j (shorter n j G)) ∙ ap (λ (d : ℕ). decimal_in f (n / 10) ++ (d ∷ [])) (digit (n % 10) (omega arith))

    go : (b : Bool) → (T b → n < 10) → (T (not b) → 10 ≤ n) → ((j : ℕ) → IsDigitCount 10 1 (n / 10) (suc j) → last_digits 10 (suc j) (n / 10) ≡ decimal_in f (n / 10)) → (i : ℕ) → IsDigitCount 10 1 n i
        → last_digits 10 i n ≡ elim b as (λ x. List ℕ) [ true ↦ (48 + n) ∷ [] | false ↦ decimal_in f (n / 10) ++ ((48 + n % 10) ∷ []) ]
    go true l r ih i G = single n i (l tt) G
    go false l r ih i G = more (r tt) ih i G

-- of a number of 64 bits
pub digits_are : (n k : ℕ) → n < 2 ^ 64 → IsDigitCount 10 1 n k → last_digits 10 k n ≡ decimal n
unfolding decimal
digits_are n k h F = is_decimal (most_digits - 1) n k (lt_of_lt_of_le h (lit≤ tt)) F

shown_in : (f n : ℕ) → length (decimal_in f n) ≤ suc f
unfolding decimal_in
shown_in zero n = omega arith
shown_in (suc f) n = go (ltb n 10) (shown_in f (n / 10))
  where
    go : (b : Bool) → length (decimal_in f (n / 10)) ≤ suc f
        → length {A = ℕ} (elim b as (λ x. List ℕ) [ true ↦ (48 + n) ∷ [] | false ↦ decimal_in f (n / 10) ++ ((48 + n % 10) ∷ []) ]) ≤ suc (suc f)
    go true h = omega arith
    go false h = simp length-append (omega arith)

pub digits_most : (n : ℕ) → length (decimal n) ≤ most_digits
unfolding decimal
digits_most n = shown_in (most_digits - 1) n
