-- For an x that is not refused neither value is a NaN or an infinity: each is at most 63 times the largest count.
use mathlib.Core.Path.{◌≡◌, refl, sym, ap, ◌∙◌, subst}
use mathlib.Core.Bool.{Bool, true, false, not, ◌&&◌, ◌||◌, cond, true≢false}
use mathlib.Core.Logic.{◌⊎◌, inl, inr}
use Prim.Native.Nat.{ℕ, zero, suc, ◌+◌, ◌*◌, ◌^◌, ◌≤◌, ◌<◌}
use native.Mathlib.Nat.{le_refl, le_trans, le_of_eq, le_of_lt, mul-one, one-mul, mul-le-mul, mul-le-mul_right, add-mul, mul-pos, mul_assoc, suc-mul, mul_right_comm, le_of_mul-le-mul_right}
use native.Mathlib.Omega.{arith}
use lib.Dec.{T, ltb, eqb, ltb→lt, eqb→eq, lit<, lit≤}
use lib.IntN.{pos}
use lib.Ieee.{Float, nan, inf, fin, Format, binary64, prec, emax, low, up, down, odd, units, round, add, lt, le, of_int}
use lib.Ieee.Fits.{down_pos, round_is, and_l, and_r}
use lib.Ieee.Exact.{HasValue, odd_sign}
use lib.Ieee.Order.{round_mono}
use lib.Ieee.Scale.{finite}
use lib.Ieee.Positive.{num, den, den_pos}
use Rattle.block.specs.Block.{most_atoms}
use Rattle.poly.specs.Poly.{zero_f, one_f, unusable, turn, of_parity, horner, most_distance, value}
use Rattle.poly.proofs.Usable.{two_tests}
use Rattle.poly.proofs.Floats.{add_at, mul_at, round_exactly, whole_exactly}
use Rattle.poly.proofs.Exact.{parity_most}

-- v is finite, not negative, and at most B
abbrev Within : Float → ℕ → Type 0
Within nan B = ⊥
Within (inf s) B = ⊥
Within (fin s m e) B = (s ≡ false) × (m * up e ≤ B * down e)

within_finite : (v : Float) (B : ℕ) → Within v B → T (finite v)
within_finite nan B h = absurd h
within_finite (inf s) B h = absurd h
within_finite (fin s m e) B h = tt

within_value : (v : Float) (B : ℕ) → Within v B → HasValue v false (num v) (den v)
within_value nan B h = absurd h
within_value (inf s) B h = absurd h
within_value (fin s m e) B h = (h.0, refl)

within_le : (v : Float) (B : ℕ) → Within v B → num v ≤ B * den v
within_le nan B h = absurd h
within_le (inf s) B h = absurd h
within_le (fin s m e) B h = h.1

-- ---- a fraction that is at most the whole number B rounds to a float that is at most B
-- neither a NaN nor negative
abbrev Plain : Float → Type 0
Plain nan = ⊥
Plain (inf s) = s ≡ false
Plain (fin s m e) = s ≡ false

value_plain : (x : Float) (a c : ℕ) → HasValue x false a c → Plain x
value_plain nan a c h = h
value_plain (inf s) a c h = absurd h
value_plain (fin s m e) a c h = h.0

units_plain : (f : Format) (q k : ℕ) → Plain (units f false q k)
unfolding units
units_plain f q k = go (ltb (q * 2 ^ k) (2 ^ (low f + suc (emax f))))
  where
    go : (b : Bool) → Plain (cond b (odd (suc (prec f)) false q k (low f)) (inf false))
    go true = value_plain (odd (suc (prec f)) false q k (low f)) (q * 2 ^ k) (2 ^ low f) (odd_sign (suc (prec f)) false q k (low f))
    go false = refl

round_plain : (f : Format) (a c : ℕ) → Plain (round f false a c)
round_plain f a c = subst Plain (sym (round_is f false a c)) (units_plain f _ _)

or_split : (a b : Bool) → T (a || b) → T a ⊎ T b
or_split true b t = inl tt
or_split false b t = inr t

lt_or_eq : (a b : ℕ) → T (ltb a b || (eqb a b && true)) → a ≤ b
lt_or_eq a b t = elim (or_split (ltb a b) (eqb a b && true) t) [ inl u ↦ le_of_lt (ltb→lt a b u) | inr u ↦ le_of_eq (eqb→eq a b (and_l (eqb a b) true u)) ]

under : (x y : Float) (B : ℕ) → Plain x → HasValue y false B 1 → T (le x y) → Within x B
unfolding le
under nan y B p h t = p
under (inf true) y B p h t = absurd (true≢false p)
under (inf false) nan B p h t = h
under (inf false) (inf s) B p h t = h
under (inf false) (fin s n d) B p h t = t
under (fin true m e) y B p h t = absurd (true≢false p)
under (fin false m e) nan B p h t = absurd h
under (fin false m e) (inf s) B p h t = absurd h
under (fin false m e) (fin true n d) B p h t = absurd (true≢false h.0)
under (fin false m e) (fin false n d) B p h t =
    let q : m * up e * down d ≤ n * up d * down e = lt_or_eq (m * up e * down d) (n * up d * down e) t in
    let r : n * up d ≡ B * down d = sym (mul-one (n * up d)) ∙ h.1 in
    (refl, le_of_mul-le-mul_right (le_trans q (le_of_eq (ap (λ (z : ℕ). z * down e) r ∙ mul_right_comm B (down d) (down e)))) (down_pos d))

within_more : (v : Float) (B C : ℕ) → B ≤ C → Within v B → Within v C
within_more nan B C l h = h
within_more (inf s) B C l h = h
within_more (fin s m e) B C l h = (h.0, le_trans h.1 (mul-le-mul_right (down e) l))

round_within : (a c B : ℕ) → 0 < c → B < 2 ^ 53 → a ≤ B * c → Within (round binary64 false a c) B
round_within a c B C small h =
    under (round binary64 false a c) (round binary64 false B 1) B (round_plain binary64 a c) (round_exactly B 0 small (lit≤ tt))
    (round_mono binary64 a c B 1 C (lit< tt) (le_trans (le_of_eq (mul-one a)) h))

-- ---- one turn, and all of them
turn_within : (n : ℕ) (x v : Float) (B : ℕ) → B + n < 2 ^ 53 → Within x 1 → Within v B → Within (turn n x v) (B + n)
turn_within n x v B small X W =
    let s = add binary64 v (of_int binary64 (pos n)) in
    let s_is : s ≡ round binary64 false (num v * 1 + n * den v) (den v * 1) = add_at binary64 v (of_int binary64 (pos n)) (num v) (den v) n 1 (den_pos v) (lit< tt) (within_value v B W) (whole_exactly n (omega arith)) in
    let S : Within s (B + n) = subst (λ (z : Float). Within z (B + n)) (sym s_is) (round_within (num v * 1 + n * den v) (den v * 1) (B + n) (mul-pos (den_pos v) (lit< tt)) small (simp mul-one (omega (arith, within_le v B W, add-mul B n (den v))))) in
    subst (λ (z : Float). Within z (B + n)) (sym (mul_at binary64 s x (num s) (den s) (num x) (den x) (den_pos s) (den_pos x) (within_value s (B + n) S) (within_value x 1 X)))
    (round_within (num s * num x) (den s * den x) (B + n) (mul-pos (den_pos s) (den_pos x)) small (le_trans (mul-le-mul (within_le s (B + n) S) (within_le x 1 X)) (le_of_eq (ap (λ (z : ℕ). (B + n) * den s * z) (one-mul (den x)) ∙ mul_assoc (B + n) (den s) (den x)))))

from_within : (n : ℕ → ℕ) (M : ℕ) → ((k : ℕ) → n k ≤ M) → (x : Float) → Within x 1 → (k : ℕ) (v : Float) (B : ℕ) → B + k * M < 2 ^ 53 → Within v B → Within (horner n x k v) (B + k * M)
unfolding horner
from_within n M le_m x X zero v B small W = within_more v B (B + 0 * M) (omega arith) W
from_within n M le_m x X (suc k) v B small W =
    let m : suc k * M ≡ k * M + M = suc-mul k M in
    let l = le_m (suc k) in
    let w : Within (turn (n (suc k)) x v) (B + M) = within_more (turn (n (suc k)) x v) (B + n (suc k)) (B + M) (omega arith) (turn_within (n (suc k)) x v B (omega arith) X W) in
    let e : B + M + k * M ≡ B + suc k * M = omega arith in
    subst (λ (z : ℕ). Within (horner n x k (turn (n (suc k)) x v)) z) e (from_within n M le_m x X k (turn (n (suc k)) x v) (B + M) (omega arith) w)

-- above 0 and at most 1
in_range : (x : Float) → T (lt zero_f x && le x one_f) → Within x 1
unfolding lt le
in_range nan t = absurd t
in_range (inf true) t = absurd t
in_range (inf false) t = absurd t
in_range (fin true m e) t = absurd t
in_range (fin false m e) t = (refl, le_trans (le_of_eq (sym (mul-one (m * up e)))) (lt_or_eq (m * up e * 1) (1 * down e) (and_r (lt zero_f (fin false m e)) (le (fin false m e) one_f) t)))

twice : (b : Bool) → T (not (not b)) → T b
twice true t = tt
twice false t = t

-- The law.
pub always_finite : (p : ℕ) (n : ℕ → ℕ) (x : Float) → ((k : ℕ) → n k ≤ most_atoms * most_atoms) → unusable x ≡ false → T (finite (value p n x))
unfolding value
always_finite p n x few usable =
    let M = most_atoms * most_atoms in
    within_finite (value p n x) (0 + most_distance * M)
    (from_within (of_parity p n) M (λ k. le_trans (parity_most p n k) (few k)) x
    (in_range x (twice (lt zero_f x && le x one_f) (subst (λ (b : Bool). T (not b)) (sym usable ∙ two_tests x) tt))) most_distance zero_f 0 (lit< tt) (refl, le_refl 0))
