-- Laws. The products of a merge fit 64 bits, and what each kind makes of them.
use Prim.Native.Nat.{ℕ, ◌+◌, ◌*◌, ◌^◌, ◌≤◌, ◌<◌}
use mathlib.Core.Bool.{Bool, true, false}
use mathlib.Core.Path.{◌≡◌, refl, ap, subst⁻¹}
use native.Mathlib.Nat.{mul_comm, mul-le-mul_right}
use native.Mathlib.Omega.{arith}
use Rattle.sets.specs.Merging.{weight, taken, WeightPair}
use Rattle.sets.specs.declared.Weight.{Weight}

-- what the code makes of one kind, and that it fits
pub record Made (κ : Bool) (p q : Weight) (x y : ℕ) : Type 0 where
  pub first : x < 2 ^ 64
  pub second : y < 2 ^ 64
  pub is : weight x y ≡ taken κ p q

pub of_bonds : {κ : Bool} {p q : Weight} → κ ≡ true → WeightPair κ p q → Made κ p q (p.x * q.x + p.y * q.y) (p.y * q.x)
of_bonds {κ} {p} {q} e = subst⁻¹ (λ (t : Bool). WeightPair t p q → Made t p q (p.x * q.x + p.y * q.y) (p.y * q.x)) e
    (λ h. let l : p.y * q.x ≤ p.x * q.x = mul-le-mul_right q.x h.into.1 in record { first = h.fits; second = omega (arith, h.fits); is = refl })

pub of_atoms : {κ : Bool} {p q : Weight} → κ ≡ false → WeightPair κ p q → Made κ p q (p.x * q.x + p.x * q.y) (q.x * p.y)
of_atoms {κ} {p} {q} e = subst⁻¹ (λ (t : Bool). WeightPair t p q → Made t p q (p.x * q.x + p.x * q.y) (q.x * p.y)) e
    (λ h.
    let l : p.y * q.x ≤ p.x * q.x = mul-le-mul_right q.x h.into.1 in
    let c : q.x * p.y ≡ p.y * q.x = mul_comm q.x p.y in
    record { first = h.fits; second = omega (arith, h.fits); is = ap (weight (p.x * q.x + p.x * q.y)) c })
