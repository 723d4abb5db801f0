-- Laws. What the lists of a file say is what its definitions say. Assumes nothing.
use Prim.Native.Nat.{ℕ, zero, suc, ◌+◌, ◌<◌, ◌≤◌}
use mathlib.Core.Bool.{Bool, true, false, ◌&&◌, ◌||◌, not, cond}
use mathlib.Core.List.{List, [], ◌∷◌, ◌++◌}
use mathlib.Core.Path.{◌≡◌, refl, ◌∙◌, ap}
use native.Mathlib.Omega.{arith}
use native.Mathlib.Decide.{ℕ_discrete}
use borrow.Author.Tests.{ne_eqb}
use lib.Dec.{eqb}
use lib.ListN.{get_or}
use Rattle.graph.specs.Graph.{Bond, Within}
use Rattle.molfile.specs.Molfile.{passing_below, names, other, names_to_h, bond_lines_on, hydrogens_on, is_dropped, is_kept, new_number, kept_bytes}
use Rattle.molfile.specs.Work.{most, mark_of, entry_of, heft, share, sum, weight, bond_by, dropped_by, kept_by, EndsInside, Weighed, Numbered, MarksGiven}
use Rattle.molfile.proofs.Numbering.{number_suc}

-- counting
count_same : (n : ℕ) (s t : ℕ → Bool) → ((j : ℕ) → j < n → s j ≡ t j) → passing_below n s ≡ passing_below n t
unfolding passing_below
count_same zero s t e = refl
count_same (suc n) s t e = rw (count_same n s t (λ j h. e j (omega arith)), e n (omega arith))

pub count_up : (n i : ℕ) (t : ℕ → Bool) → i ≤ n → passing_below i t ≤ passing_below n t
unfolding passing_below
count_up zero i t h = let e : i ≡ 0 = omega arith in rw e (omega arith)
count_up (suc n) i t h = go (ℕ_discrete i (suc n)) (count_up n i t)
  where
    go : Dec (i ≡ suc n) → (i ≤ n → passing_below i t ≤ passing_below n t) → passing_below i t ≤ passing_below n t + cond (t n) 1 0
    go (yes p) ih = rw p (omega arith)
    go (no p) ih = omega (arith, ih (omega arith))

-- of a weight: 1 means one bond, and none to a hydrogen
fewer : (m : ℕ) (f : ℕ → Bond) (h : ℕ → Bool) (i : ℕ) → hydrogens_on h f m i ≤ bond_lines_on f m i
unfolding passing_below
fewer zero f h i = omega arith
fewer (suc k) f h i = go (names f i k) (h (other (f k) i)) (fewer k f h i)
  where
    go : (s t : Bool) → hydrogens_on h f k i ≤ bond_lines_on f k i → hydrogens_on h f k i + cond (s && t) 1 0 ≤ bond_lines_on f k i + cond s 1 0
    go true true l = omega arith
    go true false l = omega arith
    go false t l = omega arith

just_one : (x y : ℕ) → y ≤ x → eqb (x + y) 1 ≡ (eqb x 1 && eqb y 0)
just_one x y l = go (ℕ_discrete x 1) (ℕ_discrete y 0)
  where
    go : Dec (x ≡ 1) → Dec (y ≡ 0) → eqb (x + y) 1 ≡ (eqb x 1 && eqb y 0)
    go (yes p) (yes q) = rw (p, q)
    go (yes p) (no q) = let e : y ≡ 1 = omega arith in rw (p, e)
    go (no p) q = rw (ne_eqb x 1 p, ne_eqb (x + y) 1 (λ z. p (omega arith)))

heft_is : (t : Bool) → heft (mark_of t) ≡ 1 + cond t 1 0
heft_is true = refl
heft_is false = refl

mark_is : (t : Bool) → eqb (mark_of t) 1 ≡ t
mark_is true = refl
mark_is false = refl

and_three : (a b c : Bool) → (a && (b && c)) ≡ (a && b && c)
and_three true b c = refl
and_three false b c = refl

module _ (h : ℕ → Bool) (f : ℕ → Bond) (n m : ℕ) (marks ones twos : List ℕ) (given : MarksGiven h f n m marks ones twos) where
  entry_heft : (v : ℕ) → Within n v → heft (entry_of marks v) ≡ 1 + cond (h v) 1 0
  entry_heft zero w = absurd (omega arith)
  entry_heft (suc j) w = rw (given.mark j (omega arith)) (heft_is (h (suc j)))

  share_is : (i k : ℕ) → k < m → share marks (bond_by ones twos) i k ≡ cond (names f i k) 1 0 + cond (names_to_h h f i k) 1 0
  share_is i k l =
      let w = given.within k l in
      rw (given.one k l, given.two k l) (go (eqb (f k).one i) (eqb (f k).two i) (entry_heft (f k).one w.0) (entry_heft (f k).two w.1))
    where
      go : (s t : Bool) → heft (entry_of marks (f k).one) ≡ 1 + cond (h (f k).one) 1 0 → heft (entry_of marks (f k).two) ≡ 1 + cond (h (f k).two) 1 0
          → cond s (heft (entry_of marks (f k).two)) (cond t (heft (entry_of marks (f k).one)) 0) ≡ cond (s || t) 1 0 + cond ((s || t) && h (cond s (f k).two (f k).one)) 1 0
      go true t p q = q
      go false true p q = p
      go false false p q = refl

  weight_is : (i k : ℕ) → k ≤ m → weight marks (bond_by ones twos) k i ≡ bond_lines_on f k i + hydrogens_on h f k i
  unfolding sum passing_below
  weight_is i zero l = refl
  weight_is i (suc k) l = omega (arith, weight_is i k (omega arith), share_is i k (omega arith))

  module _ (weights : List ℕ) (weighed : Weighed marks ones twos m weights) (few : n ≤ most) where
    gone : ℕ → Bool
    gone = dropped_by marks weights

    dropped_is : (i : ℕ) → i < n → dropped_by marks weights (suc i) ≡ is_dropped h f m (suc i)
    unfolding is_dropped
    dropped_is i l =
        rw (given.mark i l, weighed.at i (omega arith) ∙ weight_is (suc i) m (omega arith), mark_is (h (suc i)), just_one (bond_lines_on f m (suc i)) (hydrogens_on h f m (suc i)) (fewer m f h (suc i)))
        (and_three (h (suc i)) (eqb (bond_lines_on f m (suc i)) 1) (eqb (hydrogens_on h f m (suc i)) 0))

    pub number_is : (i : ℕ) → i ≤ n → new_number (dropped_by marks weights) i ≡ new_number (is_dropped h f m) i
    number_is i l = count_same i (is_kept (dropped_by marks weights)) (is_kept (is_dropped h f m)) (λ j k. ap not (dropped_is j (omega arith)))

    module _ (numbers : List ℕ) (r : ℕ) (numbered : Numbered (dropped_by marks weights) n numbers r) where
      -- the number of an atom
      entry_is : (v : ℕ) → Within n v → entry_of numbers v ≡ cond (is_dropped h f m v) 0 (new_number (is_dropped h f m) v)
      entry_is zero w = absurd (omega arith)
      entry_is (suc j) w = numbered.at j (omega arith) ∙ rw (dropped_is j (omega arith), number_is (suc j) w.high)

      -- it is 0 for one that is dropped
      entry_zero : (v : ℕ) → Within n v → eqb (cond (is_dropped h f m v) 0 (new_number (is_dropped h f m) v)) 0 ≡ is_dropped h f m v
      entry_zero zero w = absurd (omega arith)
      entry_zero (suc j) w = rw (number_suc (is_dropped h f m) j) (go (is_dropped h f m (suc j)) (new_number (is_dropped h f m) j))
        where
          go : (t : Bool) (x : ℕ) → eqb (cond t 0 (x + cond t 0 1)) 0 ≡ t
          go true x = refl
          go false x = ne_eqb (x + 1) 0 (λ z. omega arith)

      pub kept_is : (k : ℕ) → k ≤ m → kept_by numbers (bond_by ones twos) k ≡ kept_bytes (is_dropped h f m) f k
      unfolding kept_by kept_bytes
      kept_is zero l = refl
      kept_is (suc k) l =
          let w = given.within k (omega arith) in
          rw (given.one k (omega arith), given.two k (omega arith), entry_is (f k).one w.0, entry_is (f k).two w.1, entry_zero (f k).one w.0, entry_zero (f k).two w.1, kept_is k (omega arith))
          (ap (λ (xs : List ℕ). kept_bytes (is_dropped h f m) f k ++ xs) (go (is_dropped h f m (f k).one) (is_dropped h f m (f k).two) (new_number (is_dropped h f m) (f k).one) (new_number (is_dropped h f m) (f k).two)))
        where
          go : (s t : Bool) (x y : ℕ) → cond (s || t) [] (cond s 0 x ∷ cond t 0 y ∷ []) ≡ cond (s || t) [] (x ∷ y ∷ [])
          go true t x y = refl
          go false true x y = refl
          go false false x y = refl

pub inside_up : (n m : ℕ) (ones twos : List ℕ) → n ≤ most → EndsInside n m ones twos → EndsInside most m ones twos
inside_up n m ones twos l w = record { one = λ k h. up (get_or ones k 0) (w.one k h); two = λ k h. up (get_or twos k 0) (w.two k h) }
  where
    up : (v : ℕ) → Within n v → Within most v
    up v b = omega arith
