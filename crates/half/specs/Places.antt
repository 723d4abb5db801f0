-- Laws. Each pair has a place of its own below 2,016, and each such place is a pair's. Assumes nothing.
use Rattle.std.specs.Prelude.{ℕ, zero, suc, ◌+◌, ◌*◌, ◌-◌, ◌/◌, ◌≤◌, ◌<◌, Bool, true, false, ◌⊎◌, ◌≡◌, refl, leb, ltb}
use Rattle.std.proofs.Common.{inl, inr, ⊎_elim, sym, ap, eq-or-lt_of_le, add-one, arith, leb-true, leb-false, ltb-true, ltb-false}
use Rattle.std.proofs.Math.Nat.{le-suc_iff}
use Rattle.half.specs.Half.{most_atoms, all_pairs, row_start, above_place}

-- two atoms, the smaller first
pub record Pair (i j : ℕ) : Type 0 where
  pub low : 1 ≤ i
  pub less : i < j
  pub high : j ≤ most_atoms

le_or_le : (i k : ℕ) → (i ≤ k) ⊎ (k ≤ i)
le_or_le i k = go (leb i k) refl
  where
    go : (t : Bool) → leb i k ≡ t → (i ≤ k) ⊎ (k ≤ i)
    go true e = inl (leb-true i k e)
    go false e = let h = leb-false i k e in inr (omega arith)

pub start_first : row_start 1 ≡ 0
unfolding row_start
start_first = refl

pub start_last : row_start most_atoms ≡ all_pairs
unfolding row_start
start_last = refl

pub place_is : (i j : ℕ) → above_place i j ≡ row_start i + (j - i - 1)
unfolding above_place
place_is i j = refl

-- a row is as long as there are atoms behind its own
next : (m : ℕ) → m ≤ 63 → row_start (suc (suc m)) ≡ row_start (suc m) + (63 - m)
unfolding row_start
next m h =
    let x = 126 - m in
    let a : 128 - suc m ≡ suc x = omega arith in
    let b : 128 - suc (suc m) ≡ x = omega arith in
    let c : suc m - 1 ≡ m = omega arith in
    let d : suc (suc m) - 1 ≡ suc m = omega arith in
    rw (a, b, c, d) (by m x (omega arith) (omega arith))
  where
    out : (m x : ℕ) → (m + 1) * x ≡ m * x + x
    out m x = omega arith

    out' : (m x : ℕ) → m * (x + 1) ≡ m * x + m
    out' m x = omega arith

    by : (m x : ℕ) → m ≤ 63 → x ≡ 126 - m → suc m * x / 2 ≡ m * suc x / 2 + (63 - m)
    by m x l e = rw (← add-one m, ← add-one x, out m x, out' m x) (omega arith)

pub start_next : (i : ℕ) → 1 ≤ i → i ≤ most_atoms → row_start (suc i) ≡ row_start i + (most_atoms - i)
start_next zero h l = absurd (omega arith)
start_next (suc m) h l = omega (arith, next m (omega arith))

pub start_most : (i k : ℕ) → 1 ≤ i → i ≤ k → k ≤ most_atoms → row_start i ≤ row_start k
start_most i zero h l m = absurd (omega arith)
start_most i (suc zero) h l m = let e : i ≡ 1 = omega arith in rw e (omega arith)
start_most i (suc (suc k)) h l m =
    ⊎_elim (λ q. omega (arith, start_most i (suc k) h q (omega arith), start_next (suc k) (omega arith) (omega arith))) (λ q. rw q (omega arith)) (le-suc_iff.0 l)

-- a pair's place is in its row
place_low : (i j : ℕ) → row_start i ≤ above_place i j
place_low i j = omega (arith, place_is i j)

pub place_high : {i j : ℕ} → Pair i j → above_place i j < row_start (suc i)
place_high {i} {j} p =
    add_up (above_place i j) (row_start i) (j - i - 1) (most_atoms - i) (row_start (suc i)) (place_is i j) (omega (arith, p.less, p.high)) (start_next i p.low (omega (arith, p.less, p.high)))
  where
    add_up : (h a b c r : ℕ) → h ≡ a + b → b < c → r ≡ a + c → h < r
    add_up h a b c r e l f = omega arith

pub place_below : {i j : ℕ} → Pair i j → above_place i j < all_pairs
place_below {i} p = omega (arith, start_last, place_high p, start_most (suc i) most_atoms (omega arith) (omega (arith, p.less, p.high)) (omega arith))

before : {i j k l : ℕ} → Pair i j → Pair k l → i < k → above_place i j < above_place k l
before {i} {j} {k} {l} p q h = omega (arith, place_high p, start_most (suc i) k (omega arith) (omega arith) (omega (arith, q.less, q.high)), place_low k l)

-- EACH PAIR HAS A PLACE OF ITS OWN
pub place_one : {i j k l : ℕ} → Pair i j → Pair k l → above_place i j ≡ above_place k l → (i ≡ k) × (j ≡ l)
place_one {i} {j} {k} {l} p q e =
    let s : i ≡ k = ⊎_elim (λ h. ⊎_elim (λ z. z) (λ z. absurd (omega (arith, before p q z))) (eq-or-lt_of_le h)) (λ h. ⊎_elim (λ z. sym z) (λ z. absurd (omega (arith, before q p z))) (eq-or-lt_of_le h)) (le_or_le i k) in
    (s, omega (arith, place_is i j, place_is k l, ap row_start s, p.less, q.less))

-- EACH PLACE IS A PAIR'S
pub record Found (p : ℕ) : Type 0 where
  pub one : ℕ
  pub two : ℕ
  pub pair : Pair one two
  pub here : above_place one two ≡ p

found_below : (p k : ℕ) → k ≤ most_atoms → p < row_start k → 1 ≤ k → Found p
found_below p zero m l h = absurd (omega arith)
found_below p (suc zero) m l h = absurd (omega (arith, start_first))
found_below p (suc (suc k)) m l h = go (ltb p (row_start (suc k))) refl (found_below p (suc k) (omega arith))
  where
    go : (t : Bool) → ltb p (row_start (suc k)) ≡ t → (p < row_start (suc k) → 1 ≤ suc k → Found p) → Found p
    go true e f = f (ltb-true p (row_start (suc k)) e) (omega arith)
    go false e f =
        let b = ltb-false p (row_start (suc k)) e in
        let n = start_next (suc k) (omega arith) (omega arith) in
        let j = p - row_start (suc k) + suc (suc k) in
        record { one = suc k; two = j; pair = record { low = omega arith; less = omega arith; high = omega arith }; here = omega (arith, place_is (suc k) j) }

pub place_found : (p : ℕ) → p < all_pairs → Found p
place_found p l = found_below p most_atoms (omega arith) (omega (arith, start_last)) (omega arith)
