-- Laws. What is in a set, by its number. Assumes nothing.
use Rattle.std.specs.Prelude.{ℕ, zero, suc, ◌+◌, ◌-◌, ◌*◌, ◌/◌, ◌%◌, ◌^◌, ◌≤◌, ◌<◌, min, max, Bool, true, false, not, ◌&&◌, ◌||◌, cond, ◌≡◌, refl, ◌≢◌, eqb}
use Rattle.std.proofs.lemmas.Bool.{false≢true}
use Rattle.std.proofs.Common.{sym, ap, ap₂, ◌∙◌, arith, mod-lt, pow-suc, pow_pos, pow-add, pow_mono, shl_exact, shr-shr, eq-eqb, ne_eqb}
use Rattle.std.proofs.Math.Decide.{ℕ_discrete, dec_lt}
use Rattle.std.proofs.Math.Nat.{div-eq_of_lt}
use Rattle.std.proofs.Math.Arith.{bin_ind, digits_div, digits_mod}
use Rattle.std.proofs.Math.Pow.{pow-lt, high, split, ones_split}
use Rattle.std.specs.Int.Bits.{bit_and, bit_or, bit_xor, differ, and_step, or_step, xor_step, xor_add_and, and_zero_r, and_self, xor_zero_r}
use Rattle.std.proofs.lemmas.Nat.{and_shr, or_shr, xor_shr, and_block, and_mask}
use Rattle.std.specs.Int.Count.{count_trailing_zeros, under}
use Rattle.graph.specs.Graph.{Within}
use Rattle.graph.specs.Sets.{has, alone, firsts}

-- a digit, and a test of it
pub data Digit : ℕ → Bool → Type 0 where
  off : Digit 0 false
  on : Digit 1 true

digit_of : (x : ℕ) → x < 2 → Digit x (eqb x 1)
digit_of zero l = off
digit_of (suc zero) l = on
digit_of (suc (suc x)) l = absurd (omega arith)

digit : (m v : ℕ) → Digit (m / 2 ^ (v - 1) % 2) (has m v)
unfolding has
digit m v = digit_of (m / 2 ^ (v - 1) % 2) (omega arith)

same : {x y : ℕ} {s t : Bool} → Digit x s → Digit y t → x ≡ y → s ≡ t
same off off e = refl
same on on e = refl
same off on e = absurd (omega arith)
same on off e = absurd (omega arith)

min_digit : {x y : ℕ} {s t : Bool} → Digit x s → Digit y t → Digit (min x y) (s && t)
min_digit off off = off
min_digit off on = off
min_digit on off = off
min_digit on on = on

max_digit : {x y : ℕ} {s t : Bool} → Digit x s → Digit y t → Digit (max x y) (s || t)
max_digit off off = off
max_digit off on = on
max_digit on off = on
max_digit on on = on

differ_digit : {x y : ℕ} {s t : Bool} → Digit x s → Digit y t → Digit (differ x y) ((s && not t) || (not s && t))
differ_digit off off = off
differ_digit off on = on
differ_digit on off = on
differ_digit on on = off

-- the last digit of q * 2 + d
last : (q d : ℕ) {t : Bool} → Digit d t → (q * 2 + d) % 2 ≡ d
last q d off = digits_mod q (omega arith)
last q d on = digits_mod q (omega arith)

pub has_and : (a b v : ℕ) → has (bit_and a b) v ≡ (has a v && has b v)
has_and a b v =
    let x = a / 2 ^ (v - 1) in
    let y = b / 2 ^ (v - 1) in
    let d = min_digit (digit a v) (digit b v) in
    same (digit (bit_and a b) v) d (ap (λ (z : ℕ). z % 2) (and_shr a b (v - 1) ∙ and_step x y) ∙ last (bit_and (x / 2) (y / 2)) (min (x % 2) (y % 2)) d)

pub has_or : (a b v : ℕ) → has (bit_or a b) v ≡ (has a v || has b v)
has_or a b v =
    let x = a / 2 ^ (v - 1) in
    let y = b / 2 ^ (v - 1) in
    let d = max_digit (digit a v) (digit b v) in
    same (digit (bit_or a b) v) d (ap (λ (z : ℕ). z % 2) (or_shr a b (v - 1) ∙ or_step x y) ∙ last (bit_or (x / 2) (y / 2)) (max (x % 2) (y % 2)) d)

pub has_xor : (a b v : ℕ) → has (bit_xor a b) v ≡ ((has a v && not (has b v)) || (not (has a v) && has b v))
has_xor a b v =
    let x = a / 2 ^ (v - 1) in
    let y = b / 2 ^ (v - 1) in
    let d = differ_digit (digit a v) (digit b v) in
    same (digit (bit_xor a b) v) d (ap (λ (z : ℕ). z % 2) (xor_shr a b (v - 1) ∙ xor_step x y) ∙ last (bit_xor (x / 2) (y / 2)) (differ (x % 2) (y % 2)) d)

-- as a test of the digit tells
pub has_yes : (m v : ℕ) → m / 2 ^ (v - 1) % 2 ≡ 1 → has m v ≡ true
unfolding has
has_yes m v e = eq-eqb (m / 2 ^ (v - 1) % 2) 1 e

pub has_not : (m v : ℕ) → m / 2 ^ (v - 1) % 2 ≢ 1 → has m v ≡ false
unfolding has
has_not m v ne = ne_eqb (m / 2 ^ (v - 1) % 2) 1 ne

pub has-none : (v : ℕ) → has 0 v ≡ false
has-none v = same (digit 0 v) off (ap (λ (z : ℕ). z % 2) (div-eq_of_lt (pow_pos (v - 1))))

-- a digit of 2 ^ a
power_digit : (a p : ℕ) → (2 ^ a) / 2 ^ p % 2 ≡ cond (eqb p a) 1 0
power_digit a p = elim (ℕ_discrete p a) [
  | yes e ↦ rw (eq-eqb p a e) (ap (λ (z : ℕ). z % 2) (ap (λ (z : ℕ). 2 ^ z / 2 ^ p) (sym e) ∙ high_one p))
  | no ne ↦ rw (ne_eqb p a ne) (elim (dec_lt a p) [
    | yes l ↦ ap (λ (z : ℕ). z % 2) (div-eq_of_lt (pow-lt l))
    | no l ↦ above (a - p - 1) (omega arith)
  ])
]
  where
    high_one : (p : ℕ) → 2 ^ p / 2 ^ p ≡ 1
    high_one p = let e : 1 * 2 ^ p + 0 ≡ 2 ^ p = omega arith in ap (λ (z : ℕ). z / 2 ^ p) (sym e) ∙ high 1 p (pow_pos p)

    above : (k : ℕ) → a ≡ suc k + p → (2 ^ a) / 2 ^ p % 2 ≡ 0
    above k e =
        let f : 2 ^ a ≡ 2 ^ suc k * 2 ^ p + 0 = ap (λ (z : ℕ). 2 ^ z) e ∙ pow-add 2 (suc k) p ∙ omega arith in
        let h : 2 ^ a / 2 ^ p ≡ 2 ^ k * 2 + 0 = ap (λ (z : ℕ). z / 2 ^ p) f ∙ high (2 ^ suc k) p (pow_pos p) ∙ pow-suc 2 k ∙ omega arith in
        ap (λ (z : ℕ). z % 2) h ∙ last (2 ^ k) 0 off

pub has-alone : (u v : ℕ) → 1 ≤ u → 1 ≤ v → has (alone u) v ≡ eqb v u
has-alone u v l m = same (digit (alone u) v) (test (eqb (v - 1) (u - 1))) (power_digit (u - 1) (v - 1)) ∙ shift
  where
    test : (t : Bool) → Digit (cond t 1 0) t
    test true = on
    test false = off

    shift : eqb (v - 1) (u - 1) ≡ eqb v u
    shift = elim (ℕ_discrete v u) [
      | yes e ↦ eq-eqb (v - 1) (u - 1) (ap (λ (z : ℕ). z - 1) e) ∙ sym (eq-eqb v u e)
      | no ne ↦ ne_eqb (v - 1) (u - 1) (omega arith) ∙ sym (ne_eqb v u ne)
    ]

-- the atoms 1 to n
pub has-firsts : (n v : ℕ) → Within n v → has (firsts n) v ≡ true
has-firsts n v w = same (digit (firsts n) v) on (go (n - v) (v - 1) (omega arith))
  where
    go : (j p : ℕ) → n ≡ suc j + p → (2 ^ n - 1) / 2 ^ p % 2 ≡ 1
    go j p e =
        let q : 2 ^ suc j - 1 ≡ (2 ^ j - 1) * 2 + 1 = omega (arith, pow-suc 2 j, pow_pos j) in
        let f : (2 ^ n - 1) / 2 ^ p ≡ 2 ^ suc j - 1 =
        ap (λ (z : ℕ). (2 ^ z - 1) / 2 ^ p) e ∙ ap (λ (z : ℕ). z / 2 ^ p) (ones_split (suc j) p) ∙ high (2 ^ suc j - 1) p (omega (arith, pow_pos p)) in
        ap (λ (z : ℕ). z % 2) (f ∙ q) ∙ last (2 ^ j - 1) 1 on

-- a number below 2 ^ n has no atom above n
pub none_above : (n m v : ℕ) → m < 2 ^ n → n < v → has m v ≡ false
none_above n m v l h = same (digit m v) off (ap (λ (z : ℕ). z % 2) (div-eq_of_lt (omega (arith, grow))))
  where
    grow : 2 ^ n ≤ 2 ^ (v - 1)
    grow = pow_mono (omega arith)

-- the lowest atom of a set that has one
lowest_digit : (k m : ℕ) → 0 < m → m < 2 ^ k → (count_trailing_zeros k m < k) × (m / 2 ^ count_trailing_zeros k m % 2 ≡ 1)
unfolding count_trailing_zeros
lowest_digit zero m l h = absurd (omega arith)
lowest_digit (suc k) m l h = go (count_trailing_zeros k (m / 2)) (m % 2) refl (λ e. lowest_digit k (m / 2) (omega arith) (omega (arith, pow-suc 2 k)))
  where
    go : (t d : ℕ) → m % 2 ≡ d → (m % 2 ≡ 0 → (t < k) × (m / 2 / 2 ^ t % 2 ≡ 1)) → (under d t < suc k) × (m / 2 ^ under d t % 2 ≡ 1)
    go t zero e rec =
        let (a, b) = rec e in
        let q : 1 + t ≡ suc t = omega arith in
        (omega arith, ap (λ (z : ℕ). z % 2) (ap (λ (z : ℕ). m / 2 ^ z) (sym q) ∙ sym (shr-shr m 1 t)) ∙ b)
    go t (suc d) e rec = (omega arith, omega arith)

pub lowest : (k m : ℕ) → 0 < m → m < 2 ^ k → (count_trailing_zeros k m < k) × (has m (suc (count_trailing_zeros k m)) ≡ true)
lowest k m l h =
    let (a, b) = lowest_digit k m l h in
    let q : suc (count_trailing_zeros k m) - 1 ≡ count_trailing_zeros k m = omega arith in
    (a, same (digit m (suc (count_trailing_zeros k m))) on (ap (λ (z : ℕ). m / 2 ^ z % 2) q ∙ b))

-- What is taken out of a set makes its number less by as much.
pub taken_one : (m v : ℕ) → has m v ≡ true → bit_xor m (alone v) + alone v ≡ m
taken_one m v e = omega (arith, xor_add_and m (alone v), whole)
  where
    set_digit : m / 2 ^ (v - 1) % 2 ≡ 1
    set_digit = go (digit m v) e
      where
        go : {x : ℕ} {t : Bool} → Digit x t → t ≡ true → x ≡ 1
        go on h = refl
        go off h = absurd (false≢true h)

    whole : bit_and m (alone v) ≡ alone v
    whole =
        let p = v - 1 in
        let s : 1 * 2 ^ p + 0 ≡ 2 ^ p = omega arith in
        ap₂ bit_and (sym (split m p)) (sym s) ∙ and_block p (m / 2 ^ p) 1 (m % 2 ^ p) 0 (mod-lt m (pow_pos p)) (pow_pos p)
        ∙ ap₂ (λ (x y : ℕ). x * 2 ^ p + y) (and_mask (m / 2 ^ p) 1 ∙ set_digit) (and_zero_r (m % 2 ^ p)) ∙ s

pub taken_some : (a b : ℕ) → bit_xor a (bit_and b a) + bit_and b a ≡ a
taken_some =
    bin_ind (λ (n : ℕ). (b : ℕ) → bit_xor n (bit_and b n) + bit_and b n ≡ n) (λ b. ap₂ ◌+◌ (and_zero_r b) (and_zero_r b))
    (λ n ih b.
    let x = bit_and b n in
    let s = and_step b n in
    let d = digit_of (n % 2) (omega arith) in
    let c = digit_of (b % 2) (omega arith) in
    let h : x / 2 ≡ bit_and (b / 2) (n / 2) = ap (λ (z : ℕ). z / 2) s ∙ digits_div (bit_and (b / 2) (n / 2)) (small (min_digit c d)) in
    let l : x % 2 ≡ min (b % 2) (n % 2) = ap (λ (z : ℕ). z % 2) s ∙ last (bit_and (b / 2) (n / 2)) (min (b % 2) (n % 2)) (min_digit c d) in
    omega (arith, xor_step n x, ih (b / 2), ap (bit_xor (n / 2)) h, l, ap (differ (n % 2)) l, back c d))
  where
    small : {x : ℕ} {t : Bool} → Digit x t → x < 2
    small off = omega arith
    small on = omega arith

    back : {x y : ℕ} {s t : Bool} → Digit x s → Digit y t → differ y (min x y) + min x y ≡ y
    back off off = refl
    back off on = refl
    back on off = refl
    back on on = refl

-- In a word of w digits: 1 shifted to p, and all digits shifted down until n are left.
pub shifted_one : (w p : ℕ) → p < w → 1 * 2 ^ p % 2 ^ w ≡ 2 ^ p
shifted_one w p l = shl_exact 1 p w (omega arith) (omega arith) ∙ omega arith

pub shifted_down : (w n : ℕ) → n ≤ w → (2 ^ w - 1) / 2 ^ (w - n) ≡ firsts n
shifted_down w n l =
    let e : w ≡ n + (w - n) = omega arith in
    ap (λ (x : ℕ). (2 ^ x - 1) / 2 ^ (w - n)) e ∙ ap (λ (x : ℕ). x / 2 ^ (w - n)) (ones_split n (w - n)) ∙ high (2 ^ n - 1) (w - n) (omega (arith, pow_pos (w - n)))

-- A number and the one before it have all digits in common but the lowest that is set and those below.
pub lowest_dropped : (k m : ℕ) → 0 < m → m < 2 ^ k → bit_and m (m - 1) ≡ bit_xor m (2 ^ count_trailing_zeros k m)
unfolding count_trailing_zeros
lowest_dropped zero m l h = absurd (omega arith)
lowest_dropped (suc k) m l h = go (count_trailing_zeros k (m / 2)) (m % 2) refl (λ e. lowest_dropped k (m / 2) (omega arith) (omega (arith, pow-suc 2 k)))
  where
    go : (t d : ℕ) → m % 2 ≡ d → (m % 2 ≡ 0 → bit_and (m / 2) (m / 2 - 1) ≡ bit_xor (m / 2) (2 ^ t)) → bit_and m (m - 1) ≡ bit_xor m (2 ^ under d t)
    go t zero e rec =
        let q : (m - 1) / 2 ≡ m / 2 - 1 = omega arith in
        let p : 2 ^ suc t ≡ 2 ^ t * 2 + 0 = omega (arith, pow-suc 2 t) in
        let r : 2 ^ suc t / 2 ≡ 2 ^ t = ap (λ (x : ℕ). x / 2) p ∙ digits_div (2 ^ t) (omega arith) in
        let s : 2 ^ suc t % 2 ≡ 0 = ap (λ (x : ℕ). x % 2) p ∙ last (2 ^ t) 0 off in
        omega (
          arith,
          and_step m (m - 1),
          xor_step m (2 ^ suc t),
          ap (bit_and (m / 2)) q,
          ap (bit_xor (m / 2)) r,
          rec e,
          ap (λ (x : ℕ). min x ((m - 1) % 2)) e,
          ap₂ differ e s,
        )
    go t (suc d) e rec =
        let o : m % 2 ≡ 1 = omega arith in
        let q : (m - 1) / 2 ≡ m / 2 = omega arith in
        let s : (m - 1) % 2 ≡ 0 = omega arith in
        omega (
          arith,
          and_step m (m - 1),
          xor_step m 1,
          ap (bit_and (m / 2)) q,
          and_self (m / 2),
          xor_zero_r (m / 2),
          ap₂ min o s,
          ap (λ (x : ℕ). differ x 1) o,
        )
