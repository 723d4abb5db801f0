-- At x = 0.5 the values are exact, where no count is beyond distance d and C * 2 ^ d has at most 53 digits for a bound C of the counts.
use mathlib.Core.Path.{◌≡◌, refl, sym, ap, ◌∙◌, subst, subst₂}
use mathlib.Core.Bool.{Bool, true, false, cond}
use Prim.Native.Nat.{ℕ, zero, suc, ◌+◌, ◌-◌, ◌*◌, ◌^◌, ◌%◌, ◌≤◌, ◌<◌, zero-le}
use native.Mathlib.Nat.{le_refl, le_trans, mul-one, zero-mul, mul-le-mul_left, mul-le-mul_right, le-mul_of_pos_right, pow-suc, two-pow-succ, mul-add, add-suc, add-zero, zero-add, sub-zero, sub-le}
use native.Mathlib.Omega.{arith}
use lib.Dec.{eqb, lit<, lit≤}
use lib.IntN.{pos}
use lib.Pow.{pow_pos, pow_mono}
use lib.Ieee.{Float, binary64, round, add, mul, of_int}
use lib.Ieee.Exact.{HasValue}
use Rattle.graph.specs.Graph.{sum}
use Rattle.block.specs.Block.{most_atoms}
use Rattle.poly.specs.Poly.{zero_f, half, turn, of_parity, horner, most_distance, value}
use Rattle.poly.specs.Exact.{exact_to, scaled}
use Rattle.poly.proofs.Floats.{add_at, mul_at, round_exactly, whole_exactly}

half_value : HasValue half false 1 2
half_value = (refl, refl)

-- one turn: (a / 2 ^ t + n) * 0.5 is exactly (a + n * 2 ^ t) / 2 ^ (t + 1)
turn_exact : (v : Float) (a n t : ℕ) → t < 1074 → a + n * 2 ^ t < 2 ^ 53 → HasValue v false a (2 ^ t)
    → HasValue (turn n half v) false (a + n * 2 ^ t) (2 ^ suc t)
turn_exact v a n t l h k =
    let b = a + n * 2 ^ t in
    let small : n ≤ n * 2 ^ t = le-mul_of_pos_right n (pow_pos t) in
    let n_exact : HasValue (of_int binary64 (pos n)) false n 1 = whole_exactly n (omega arith) in
    let s = add binary64 v (of_int binary64 (pos n)) in
    let s_is : s ≡ round binary64 false b (2 ^ t) =
    add_at binary64 v (of_int binary64 (pos n)) a (2 ^ t) n 1 (pow_pos t) (lit< tt) k n_exact
    ∙ ap (λ (z : ℕ). round binary64 false (z + n * 2 ^ t) (2 ^ t * 1)) (mul-one a) ∙ ap (λ (z : ℕ). round binary64 false b z) (mul-one (2 ^ t)) in
    let s_exact : HasValue s false b (2 ^ t) = subst (λ (z : Float). HasValue z false b (2 ^ t)) (sym s_is) (round_exactly b t h (omega arith)) in
    let p_is : mul binary64 s half ≡ round binary64 false b (2 ^ suc t) =
    mul_at binary64 s half b (2 ^ t) 1 2 (pow_pos t) (lit< tt) s_exact half_value
    ∙ ap (λ (z : ℕ). round binary64 false z (2 ^ t * 2)) (mul-one b) ∙ ap (λ (z : ℕ). round binary64 false b z) (sym (pow-suc 2 t)) in
    subst (λ (z : Float). HasValue z false b (2 ^ suc t)) (sym p_is) (round_exactly b (suc t) h l)

module _ (n : ℕ → ℕ) (d C : ℕ) (far : d ≤ most_distance) (room : C * 2 ^ d < 2 ^ 53) (few : (k : ℕ) → n k ≤ C) where
  -- from k = j down to 1, from a value a / 2 ^ (d - j) that is at most C
  from_exact : (j : ℕ) → j ≤ d → (v : Float) (a : ℕ) → HasValue v false a (2 ^ (d - j)) → a ≤ C * 2 ^ (d - j)
      → HasValue (horner n half j v) false (a + sum j (λ k. n k * 2 ^ (d - k))) (2 ^ d)
  unfolding horner sum
  from_exact zero l v a h b = subst₂ (λ (z e : ℕ). HasValue v false z (2 ^ e)) (sym (add-zero a)) (sub-zero d) h
  from_exact (suc i) l v a h b =
      let t = d - suc i in
      let w = turn (n (suc i)) half v in
      let c = a + n (suc i) * 2 ^ t in
      let next : suc t ≡ d - i = omega arith in
      let m : n (suc i) * 2 ^ t ≤ C * 2 ^ t = mul-le-mul_right (2 ^ t) (few (suc i)) in
      let two : C * 2 ^ (d - i) ≡ C * 2 ^ t + C * 2 ^ t = ap (λ (z : ℕ). C * 2 ^ z) (sym next) ∙ ap (λ (z : ℕ). C * z) (two-pow-succ t) ∙ mul-add C (2 ^ t) (2 ^ t) in
      let less : C * 2 ^ (d - i) ≤ C * 2 ^ d = mul-le-mul_left C (pow_mono (sub-le d i)) in
      let w_exact : HasValue w false c (2 ^ (d - i)) = subst (λ (z : ℕ). HasValue w false c (2 ^ z)) next (turn_exact v a (n (suc i)) t (omega arith) (omega arith) h) in
      let all : c + sum i (λ k. n k * 2 ^ (d - k)) ≡ a + (sum i (λ k. n k * 2 ^ (d - k)) + n (suc i) * 2 ^ t) = omega arith in
      subst (λ (z : ℕ). HasValue (horner n half i w) false z (2 ^ d)) all (from_exact i (omega arith) w c w_exact (omega arith))

-- as long as n(k) is 0 the value stays 0
zeros : (n : ℕ → ℕ) (d e : ℕ) → ((k : ℕ) → d < k → n k ≡ 0) → horner n half (d + e) zero_f ≡ horner n half d zero_f
unfolding horner
zeros n d zero h = ap (λ (z : ℕ). horner n half z zero_f) (add-zero d)
zeros n d (suc e) h =
    ap (λ (z : ℕ). horner n half z zero_f) (add-suc d e)
    ∙ ap (λ (z : ℕ). horner n half (d + e) (turn z half zero_f)) (h (suc (d + e)) (omega arith))
    ∙ ap (λ (z : Float). horner n half (d + e) z) still
    ∙ zeros n d e h
  where
    still : turn 0 half zero_f ≡ zero_f
    still = unfold mul add of_int in refl

-- The law, over the largest distance d and the bound C.
exact : (n : ℕ → ℕ) (d C : ℕ) → d ≤ most_distance → C * 2 ^ d < 2 ^ 53 → ((k : ℕ) → n k ≤ C) → ((k : ℕ) → d < k → n k ≡ 0)
    → HasValue (horner n half most_distance zero_f) false (sum d (λ k. n k * 2 ^ (d - k))) (2 ^ d)
exact n d C far room few none =
    let e : d + (most_distance - d) ≡ most_distance = omega arith in
    let start : HasValue zero_f false 0 (2 ^ (d - d)) = (refl, zero-mul (2 ^ (d - d))) in
    subst (λ (z : Float). HasValue z false (sum d (λ k. n k * 2 ^ (d - k))) (2 ^ d)) (sym (zeros n d (most_distance - d) none) ∙ ap (λ (z : ℕ). horner n half z zero_f) e)
    (subst (λ (z : ℕ). HasValue (horner n half d zero_f) false z (2 ^ d)) (zero-add (sum d (λ k. n k * 2 ^ (d - k))))
    (from_exact n d C far room few d (le_refl d) zero_f 0 start zero-le))

pub parity_most : (p : ℕ) (n : ℕ → ℕ) (k : ℕ) → of_parity p n k ≤ n k
unfolding of_parity
parity_most p n k = go (eqb (k % 2) p)
  where
    go : (b : Bool) → cond b (n k) 0 ≤ n k
    go true = le_refl (n k)
    go false = zero-le

-- Document 01's case: the even (p = 0) and the odd (p = 1) value of a block.
pub exact_at_half : (p : ℕ) (n : ℕ → ℕ) → ((k : ℕ) → n k ≤ most_atoms * most_atoms) → ((k : ℕ) → exact_to < k → n k ≡ 0)
    → HasValue (value p n half) false (scaled p n) (2 ^ exact_to)
unfolding value
exact_at_half p n few none =
    exact (of_parity p n) exact_to (most_atoms * most_atoms) (lit≤ tt) (lit< tt) (λ k. le_trans (parity_most p n k) (few k)) (λ k h. omega (arith, parity_most p n k, none k h))
