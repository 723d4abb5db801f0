-- Laws. The new numbers of the atoms, one by one. Assumes nothing.
use Prim.Native.Nat.{ℕ, zero, suc, ◌+◌, ◌≤◌}
use mathlib.Core.Bool.{Bool, true, false, not, cond}
use mathlib.Core.Path.{◌≡◌, refl, ap}
use native.Mathlib.Omega.{arith}
use native.Mathlib.Numerals.{add-one}
use Rattle.molfile.specs.Molfile.{passing_below, is_kept, new_number}

module _ (dropped : ℕ → Bool) where
  pub number_none : 0 ≡ new_number dropped 0
  unfolding passing_below
  number_none = refl

  pub number_suc : (i : ℕ) → new_number dropped (suc i) ≡ new_number dropped i + cond (dropped (suc i)) 0 1
  unfolding passing_below
  number_suc i = ap (λ n. new_number dropped i + n) (go (dropped (suc i)))
    where
      go : (t : Bool) → ◌≡◌ {A = ℕ} (cond (not t) 1 0) (cond t 0 1)
      go true = refl
      go false = refl

  pub number_more : (i : ℕ) → new_number dropped (i + 1) ≡ new_number dropped i + cond (dropped (suc i)) 0 1
  number_more i = rw (add-one i) (number_suc i)

  pub number_few : (i : ℕ) → new_number dropped i ≤ i
  unfolding passing_below
  number_few zero = omega arith
  number_few (suc i) = go (is_kept dropped i) (number_few i)
    where
      go : (t : Bool) → new_number dropped i ≤ i → new_number dropped i + cond t 1 0 ≤ suc i
      go true h = omega arith
      go false h = omega arith
