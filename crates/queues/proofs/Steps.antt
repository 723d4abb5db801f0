-- Laws. Bytes set to 0 one after the other, and the search for a place. Assumes nothing.
use Prim.Native.Nat.{ℕ, suc, ◌+◌, ◌-◌, ◌≤◌, ◌<◌}
use mathlib.Core.List.{List}
use mathlib.Core.Path.{◌≡◌}
use native.Mathlib.Numerals.{add-one}
use native.Mathlib.Omega.{arith}
use borrow.Author.Tests.{eq-eqb, ne_eqb}
use lib.ListN.{set, replicate}
use lib.Seq.{sets}
use Rattle.queues.specs.Shelf.{seek}

-- what is left to store
pub clear_one : (s : List ℕ) (k len : ℕ) → k < len → sets s k (replicate (len - k) 0) ≡ sets (set s k 0) (k + 1) (replicate (len - (k + 1)) 0)
clear_one s k len h = let e : len - k ≡ suc (len - (k + 1)) = omega arith in rw (e, add-one k)

pub clear_none : (s : List ℕ) (k len : ℕ) → len ≤ k → sets s k (replicate (len - k) 0) ≡ s
clear_none s k len h = let e : len - k ≡ 0 = omega arith in rw e

pub clear_start : (s : List ℕ) (len : ℕ) → sets s 0 (replicate len 0) ≡ sets s 0 (replicate (len - 0) 0)
clear_start s len = let e : len - 0 ≡ len = omega arith in rw e

-- a place has the number, or the search goes on
pub seek_here : (g : ℕ → ℕ) (x k n : ℕ) → k < n → g k ≡ x → seek g x k (n - k) ≡ k
unfolding seek
seek_here g x k n h e = let q : n - k ≡ suc (n - (k + 1)) = omega arith in rw (q, eq-eqb (g k) x e)

pub seek_on : (g : ℕ → ℕ) (x k n : ℕ) → k < n → (g k ≡ x → ⊥) → seek g x k (n - k) ≡ seek g x (k + 1) (n - (k + 1))
unfolding seek
seek_on g x k n h e = let q : n - k ≡ suc (n - (k + 1)) = omega arith in rw (q, ne_eqb (g k) x e, add-one k)

pub seek_over : (g : ℕ → ℕ) (x k n : ℕ) → n ≤ k → seek g x k (n - k) ≡ k
unfolding seek
seek_over g x k n h = let q : n - k ≡ 0 = omega arith in rw q
