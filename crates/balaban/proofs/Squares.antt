-- Laws. Roots rounded down: there is one, `root_in` is it, and `largest_root` is the largest number whose square times p is at most the bound. Assumes nothing.
use Prim.Native.Nat.{ℕ, zero, suc, ◌+◌, ◌*◌, ◌/◌, ◌≤◌, ◌<◌}
use mathlib.Core.Bool.{Bool, true, false, cond}
use mathlib.Core.Path.{◌≡◌, refl}
use native.Mathlib.Nat.{mul-le-mul, le-div_iff_mul-le, div-zero}
use native.Mathlib.Omega.{arith}
use borrow.Author.Tests.{eqb-true, eqb-false, leb-true, leb-false}
use lib.Dec.{eqb, leb}
use Rattle.balaban.specs.Balaban.{Largest, root_in, largest_root, bound}
use Rattle.balaban.specs.Work.{unit, Root}

-- a number whose square is at most q is no more than the root
pub root_most : {q r : ℕ} → Root q r → (s : ℕ) → s * s ≤ q → s ≤ r
root_most {q} {r} h s l = not_above (λ m. let k : (r + 1) * (r + 1) ≤ s * s = mul-le-mul m m in omega arith)
  where
    not_above : (r + 1 ≤ s → ⊥) → s ≤ r
    not_above n = omega arith

pub root_once : {q r s : ℕ} → Root q r → Root q s → r ≡ s
root_once {q} {r} {s} h k = omega (arith, root_most h s k.low, root_most k r h.low)

-- a number whose square is at most 10 ^ 18 is at most 10 ^ 9; one whose square is above another is not 0
pub root_fits : (s : ℕ) → s * s ≤ bound 1 → s ≤ unit
root_fits = root_most (record { low = omega arith; high = omega arith })

pub above_none : (q t : ℕ) → q < t * t → 1 ≤ t
above_none q zero l = absurd (omega arith)
above_none q (suc t) l = omega arith

step_zero : (turns q : ℕ) → eqb q 0 ≡ true → root_in (suc turns) q ≡ 0
unfolding root_in
step_zero turns q e = rw (e, root_in)

abbrev next : ℕ → ℕ → ℕ
next q s = cond (leb (suc s * suc s) q) (suc s) s

step_more : (turns q : ℕ) → eqb q 0 ≡ false → root_in (suc turns) q ≡ next q (2 * root_in turns (q / 4))
unfolding root_in
step_more turns q e = rw (e, root_in)

-- from the root of q / 4 to that of q
next_root : (q h : ℕ) → Root (q / 4) h → Root q (next q (2 * h))
next_root q h r = go (leb (suc (2 * h) * suc (2 * h)) q) refl
  where
    go : (t : Bool) → leb (suc (2 * h) * suc (2 * h)) q ≡ t → Root q (cond t (suc (2 * h)) (2 * h))
    go true e = let l = leb-true (suc (2 * h) * suc (2 * h)) q e in record { low = l; high = omega arith }
    go false e = let l = leb-false (suc (2 * h) * suc (2 * h)) q e in record { low = omega arith; high = omega arith }

root_in_lem : (turns q : ℕ) → q ≤ turns → Root q (root_in turns q)
unfolding root_in
root_in_lem zero q l = record { low = omega arith; high = omega arith }
root_in_lem (suc turns) q l = go (eqb q 0) refl (root_in_lem turns (q / 4))
  where
    go : (t : Bool) → eqb q 0 ≡ t → (q / 4 ≤ turns → Root (q / 4) (root_in turns (q / 4))) → Root q (root_in (suc turns) q)
    go true e r = let z = eqb-true q 0 e in rw (step_zero turns q e) (record { low = omega arith; high = omega arith })
    go false e r = let z = eqb-false q 0 e in rw (step_more turns q e) (next_root q (root_in turns (q / 4)) (r (omega arith)))

-- the root of the quotient
pub largest_is : (bound p r : ℕ) → Root (bound / p) r → r ≡ largest_root bound p
unfolding largest_root
largest_is bound p r h = root_once h (root_in_lem (bound / p) (bound / p) (omega arith))

pub largest_none : (bound : ℕ) → largest_root bound 0 ≡ 0
unfolding largest_root root_in
largest_none bound = rw (div-zero bound)

-- What `largest_root` is.
pub largest_root_lem : (bound p : ℕ) → 0 < p → Largest bound p (largest_root bound p)
unfolding largest_root
largest_root_lem bound p pos =
    let r : Root (bound / p) (root_in (bound / p) (bound / p)) = root_in_lem (bound / p) (bound / p) (omega arith) in
    record { fits = (le-div_iff_mul-le pos).0 r.low; most = λ s l. root_most r s ((le-div_iff_mul-le pos).1 l) }
