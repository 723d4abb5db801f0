use Prim.Native.Nat.{ℕ, zero, suc, ◌-◌, ◌%◌, ◌≤◌, ◌<◌}
use mathlib.Core.Path.{◌≡◌, refl, sym, ap, ◌∙◌}
use native.Mathlib.Nat.{lt_irrefl, lt_of_lt_of_le, zero-lt-suc}
use native.Mathlib.Omega.{arith}
use borrow.Author.Tests.{eq-eqb, ne_eqb}
use lib.Dec.{lit≤}
use lib.IntN.{pos}
use lib.Ieee.{Float, binary64, add, mul, of_int, of_bits}
use Rattle.poly.specs.Poly.{pairs_counted, of_parity, turn, horner, value}
use Rattle.poly.proofs.value_of.Goals as goal
use Rattle.poly.proofs.value_of.Goals.{then-k-parity, else-k-parity}

-- `poly::value_of` meets its contract. The loop's invariant: what is left to do from v at k is the whole value. The measure is k.
-- after a turn at k, k - 1 is next
next : (n : ℕ → ℕ) (x : Float) (k : ℕ) (v : Float) → 0 < k → horner n x (k - 1) (turn (n k) x v) ≡ horner n x k v
unfolding horner
next n x zero v h = absurd (lt_irrefl 0 h)
next n x (suc k) v h = let j : suc k - 1 ≡ k = omega arith in rw j

done : (n : ℕ → ℕ) (x : Float) (k : ℕ) (v : Float) → k ≤ 0 → horner n x k v ≡ v
unfolding horner
done n x zero v h = refl
done n x (suc k) v h = absurd (lt_irrefl 0 (lt_of_lt_of_le (zero-lt-suc k) h))

-- n(k) for its own parity, and 0 for the other
own : (p : ℕ) (n : ℕ → ℕ) (k : ℕ) → k % 2 ≡ p → of_parity p n k ≡ n k
unfolding of_parity
own p n k e = rw (eq-eqb (k % 2) p e)

other : (p : ℕ) (n : ℕ → ℕ) (k : ℕ) → (k % 2 ≡ p → ⊥) → of_parity p n k ≡ 0
unfolding of_parity
other p n k e = rw (ne_eqb (k % 2) p e)

-- the code's 0.0 is the number 0
nought : of_bits binary64 0 ≡ of_int binary64 (pos 0)
unfolding of_bits of_int
nought = refl

pub loop-k-init : goal.loop-k-init
unfolding of_bits value
loop-k-init c = (lit≤ tt, refl)

pub int_to_float-v : goal.int_to_float-v
int_to_float-v c = tt

pub loop-k-preserved : goal.loop-k-preserved
loop-k-preserved c =
    let p = c.args.parity in
    let n = pairs_counted c.args.counts in
    let x = c.args.x in
    let k = c.loop-k.k in
    let v = c.loop-k.v in
    let go : (u : ℕ) (w : Float) → of_parity p n k ≡ u → w ≡ turn u x v → horner (of_parity p n) x (k - 1) w ≡ value p n x =
    λ u w e q. ap (λ (z : Float). horner (of_parity p n) x (k - 1) z) (q ∙ ap (λ (i : ℕ). turn i x v) (sym e)) ∙ next (of_parity p n) x k v c.loop-k-test.true ∙ c.loop-k.invariant.1 in
    elim c.if-k-parity.branch [
      | then-k-parity w ↦ (omega arith, go (n k) c.if-k-parity.v (own p n k w.if-k-parity.true) w.v-is)
      | else-k-parity w ↦ (omega arith, go 0 c.if-k-parity.v (other p n k w.if-k-parity.false) (w.v-is ∙ ap (λ (z : Float). mul binary64 (add binary64 v z) x) nought))
    ]

pub returns : goal.returns
returns c = sym (done _ _ _ _ c.loop-k-test.false) ∙ c.loop-k.invariant.1
