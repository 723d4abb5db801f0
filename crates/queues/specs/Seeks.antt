-- Laws. The search for a number among places, and how many places are taken. Assumes nothing.
use Prim.Native.Nat.{ℕ, zero, suc, ◌+◌, ◌≤◌, ◌<◌}
use Rattle.std.specs.Prelude.{Bool, ◌≡◌}
use Rattle.std.proofs.Math.Bool.{true, false, cond}
use Rattle.std.proofs.Math.Path.{refl}
use Rattle.std.proofs.Common.{sym, ◌∙◌, ap}
use Rattle.std.proofs.Math.Decide.{ℕ_discrete}
use native.Mathlib.Omega.{arith}
use borrow.Author.Tests.{eq-eqb, ne_eqb, eqb-true, eqb-false}
use Rattle.std.proofs.Math.Dec.{eqb}
use Rattle.queues.specs.Shelf.{seek}

-- how many of the first n places have a number that is not 0
unfoldable pub taken : (ℕ → ℕ) → ℕ → ℕ
taken g zero = 0
taken g (suc n) = taken g n + cond (eqb (g n) 0) 0 1

module _ (g : ℕ → ℕ) (x : ℕ) where
  -- the search ends at most behind the last place
  pub seek_most : (k n : ℕ) → seek g x k n ≤ k + n
  unfolding seek
  seek_most k zero = omega arith
  seek_most k (suc n) = go (eqb (g k) x) (seek_most (suc k) n)
    where
      go : (t : Bool) → seek g x (suc k) n ≤ suc k + n → cond t k (seek g x (suc k) n) ≤ k + suc n
      go true h = omega arith
      go false h = omega arith

  -- what is found has the number
  pub seek_found : (k n : ℕ) → seek g x k n < k + n → g (seek g x k n) ≡ x
  unfolding seek
  seek_found k zero h = absurd (omega arith)
  seek_found k (suc n) h = go (eqb (g k) x) refl (seek_found (suc k) n) h
    where
      go : (t : Bool) → eqb (g k) x ≡ t → (seek g x (suc k) n < suc k + n → g (seek g x (suc k) n) ≡ x) → cond t k (seek g x (suc k) n) < k + suc n → g (cond t k (seek g x (suc k) n)) ≡ x
      go true t more l = eqb-true (g k) x t
      go false t more l = more (omega arith)

  -- no place before it has the number
  pub seek_least : (k n j : ℕ) → k ≤ j → j < seek g x k n → g j ≡ x → ⊥
  unfolding seek
  seek_least k zero j l h e = omega arith
  seek_least k (suc n) j l h e = go (eqb (g k) x) refl (ℕ_discrete k j) (λ m q. seek_least (suc k) n j m q e) h
    where
      go : (t : Bool) → eqb (g k) x ≡ t → Dec (k ≡ j) → (suc k ≤ j → j < seek g x (suc k) n → ⊥) → j < cond t k (seek g x (suc k) n) → ⊥
      go true t d more q = omega arith
      go false t (yes d) more q = eqb-false (g k) x t (ap g d ∙ e)
      go false t (no d) more q = more (omega arith) q

  -- the first place that has the number is found
  pub seek_hit : (k n j : ℕ) → k ≤ j → j < k + n → g j ≡ x → ((i : ℕ) → k ≤ i → i < j → g i ≡ x → ⊥) → seek g x k n ≡ j
  unfolding seek
  seek_hit k zero j l h e none = absurd (omega arith)
  seek_hit k (suc n) j l h e none = go (ℕ_discrete k j) (λ m. seek_hit (suc k) n j m (omega arith) e (λ i p q. none i (omega arith) q))
    where
      go : Dec (k ≡ j) → (suc k ≤ j → seek g x (suc k) n ≡ j) → cond (eqb (g k) x) k (seek g x (suc k) n) ≡ j
      go (yes d) more = rw (eq-eqb (g k) x (ap g d ∙ e)) d
      go (no d) more = rw (ne_eqb (g k) x (none k (omega arith) (omega arith))) (more (omega arith))

  pub seek_miss : (k n : ℕ) → ((i : ℕ) → k ≤ i → i < k + n → g i ≡ x → ⊥) → seek g x k n ≡ k + n
  unfolding seek
  seek_miss k zero none = omega arith
  seek_miss k (suc n) none = rw (ne_eqb (g k) x (none k (omega arith) (omega arith))) (seek_miss (suc k) n (λ i p q. none i (omega arith) (omega arith)) ∙ omega arith)

-- the search goes by the tests only
pub seek_same : (g h : ℕ → ℕ) (x : ℕ) (k n : ℕ) → ((i : ℕ) → k ≤ i → i < k + n → eqb (g i) x ≡ eqb (h i) x) → seek g x k n ≡ seek h x k n
unfolding seek
seek_same g h x k zero same = refl
seek_same g h x k (suc n) same = rw (same k (omega arith) (omega arith), seek_same g h x (suc k) n (λ i p q. same i (omega arith) (omega arith)))

-- places that are taken
pub taken_most : (g : ℕ → ℕ) (n : ℕ) → taken g n ≤ n
unfolding taken
taken_most g zero = omega arith
taken_most g (suc n) = go (eqb (g n) 0) (taken_most g n)
  where
    go : (t : Bool) → taken g n ≤ n → taken g n + cond t 0 1 ≤ suc n
    go true h = omega arith
    go false h = omega arith

-- all are taken exactly where none has number 0
pub taken_all : (g : ℕ → ℕ) (n : ℕ) → ((i : ℕ) → i < n → g i ≡ 0 → ⊥) → taken g n ≡ n
unfolding taken
taken_all g zero none = refl
taken_all g (suc n) none = rw (ne_eqb (g n) 0 (none n (omega arith)), taken_all g n (λ i l. none i (omega arith))) (omega arith)

pub taken_less : (g : ℕ → ℕ) (n k : ℕ) → k < n → g k ≡ 0 → taken g n < n
unfolding taken
taken_less g zero k l e = absurd (omega arith)
taken_less g (suc n) k l e = go (ℕ_discrete k n) (eqb (g n) 0) refl (λ m. taken_less g n k m e)
  where
    go : Dec (k ≡ n) → (t : Bool) → eqb (g n) 0 ≡ t → (k < n → taken g n < n) → taken g n + cond t 0 1 < suc n
    go d true q more = omega (arith, taken_most g n)
    go (yes d) false q more = absurd (eqb-false (g n) 0 q (ap g (sym d) ∙ e))
    go (no d) false q more = omega (arith, more (omega arith))

-- places that agree but for one
pub taken_same : (g h : ℕ → ℕ) (n : ℕ) → ((i : ℕ) → i < n → g i ≡ h i) → taken g n ≡ taken h n
unfolding taken
taken_same g h zero same = refl
taken_same g h (suc n) same = rw (same n (omega arith), taken_same g h n (λ i l. same i (omega arith)))

-- one more, where the place k was empty and is taken now
pub taken_more : (g h : ℕ → ℕ) (n k : ℕ) → k < n → ((i : ℕ) → i < n → (i ≡ k → ⊥) → h i ≡ g i) → g k ≡ 0 → 1 ≤ h k → taken h n ≡ suc (taken g n)
unfolding taken
taken_more g h zero k l same e f = absurd (omega arith)
taken_more g h (suc n) k l same e f = go (ℕ_discrete n k) (λ m. taken_more g h n k m (λ i p. same i (omega arith)) e f)
  where
    go : Dec (n ≡ k) → (k < n → taken h n ≡ suc (taken g n)) → taken h n + cond (eqb (h n) 0) 0 1 ≡ suc (taken g n + cond (eqb (g n) 0) 0 1)
    go (yes d) more =
        rw (eq-eqb (g n) 0 (ap g d ∙ e), ne_eqb (h n) 0 (λ z. omega (arith, sym (ap h d) ∙ z)), taken_same h g n (λ i p. same i (omega arith) (omega arith)))
        (omega arith)
    go (no d) more = rw (same n (omega arith) d, more (omega arith)) (omega arith)

pub taken_none : (g : ℕ → ℕ) (n : ℕ) → ((i : ℕ) → g i ≡ 0) → taken g n ≡ 0
unfolding taken
taken_none g zero z = refl
taken_none g (suc n) z = rw (eq-eqb (g n) 0 (z n), taken_none g n z)
