-- Rows that are filled place by place. Assumes nothing.
use Prim.Native.Nat.{ℕ, zero, suc, ◌+◌, ◌≤◌, ◌<◌}
use mathlib.Core.List.{List}
use mathlib.Core.Bool.{Bool, true, false, cond}
use mathlib.Core.Logic.{◌⊎◌, inl, inr, ⊎_elim}
use mathlib.Core.Path.{◌≡◌, refl, sym, ◌∙◌, ap}
use native.Mathlib.Omega.{arith}
use borrow.Author.Tests.{eqb-true, eqb-false, eq-eqb, ne_eqb}
use lib.Dec.{eqb}
use lib.ListN.{length, set, replicate, length-replicate}
use lib.Seq.{get_or-set_same, get_or-set_other}
use Rattle.graph.specs.Graph.{Within}
use Rattle.block.specs.Lent.{zeros}
use Rattle.shares.specs.Work.{at}

-- an entry after a store is what was stored, or what it was
pub after_store : (row : List ℕ) (i x k : ℕ) → i < length row
    → ((k ≡ i) × (at (set row i x) k ≡ x)) ⊎ ((k ≡ i → ⊥) × (at (set row i x) k ≡ at row k))
after_store row i x k l = go (eqb k i) refl
  where
    go : (t : Bool) → eqb k i ≡ t → ((k ≡ i) × (at (set row i x) k ≡ x)) ⊎ ((k ≡ i → ⊥) × (at (set row i x) k ≡ at row k))
    go true e = let z = eqb-true k i e in inl (z, ap (at (set row i x)) z ∙ get_or-set_same row i x 0 l)
    go false e = let z = eqb-false k i e in inr (z, get_or-set_other row i k x 0 z)

-- a row that is low stays so where what is stored is low
pub store_low : (row : List ℕ) (i x : ℕ) {most : ℕ} → i < length row → ((k : ℕ) → at row k ≤ most) → x ≤ most → (k : ℕ) → at (set row i x) k ≤ most
store_low row i x l h m k = ⊎_elim (λ q. omega (arith, q.1)) (λ q. omega (arith, q.1, h k)) (after_store row i x k l)

-- 1 at one place of zeros
pub unit_at : (m i v : ℕ) → i < m → at (set (replicate m 0) i 1) v ≡ cond (eqb i v) 1 0
unit_at m i v l =
    ⊎_elim (λ q. q.1 ∙ sym (ap {B = ℕ} (λ (t : Bool). cond t 1 0) (eq-eqb i v (sym q.0))))
    (λ q. q.1 ∙ zeros m v ∙ sym (ap {B = ℕ} (λ (t : Bool). cond t 1 0) (ne_eqb i v (λ e. q.0 (sym e)))))
    (after_store (replicate m 0) i 1 v (omega (arith, length-replicate {A = ℕ} m 0)))

-- a row that has G at the places below j has it at j once that is stored
pub placed : (row : List ℕ) (j x : ℕ) (G : ℕ → ℕ) → j < length row → ((k : ℕ) → k < j → at row k ≡ G k) → x ≡ G j
    → (k : ℕ) → k < j + 1 → at (set row j x) k ≡ G k
placed row j x G i h e k l =
    ⊎_elim (λ q. q.1 ∙ e ∙ ap G (sym q.0)) (λ q. q.1 ∙ h k (omega (arith, q.0))) (after_store row j x k i)

-- the same, for the seats of the atoms before v
pub seated_next : (row : List ℕ) (v x : ℕ) (G : ℕ → ℕ) → v < length row → ((u : ℕ) → 0 < u → u < v → at row u ≡ G u) → x ≡ G v
    → (u : ℕ) → 0 < u → u < v + 1 → at (set row v x) u ≡ G u
seated_next row v x G i h e u p l =
    ⊎_elim (λ q. q.1 ∙ e ∙ ap G (sym q.0)) (λ q. q.1 ∙ h u p (omega (arith, q.0))) (after_store row v x u i)

-- what holds of the places 0 to n - 1 holds of the atoms 1 to n
pub of_places : (P : ℕ → Type 0) (n : ℕ) → ((j : ℕ) → j < n → P (suc j)) → (v : ℕ) → Within n v → P v
of_places P n h zero w = absurd (omega arith)
of_places P n h (suc j) w = h j (omega arith)
