-- Laws. How many atoms a set has: its binary digits that are 1. Assumes nothing.
use Rattle.std.specs.Prelude.{ℕ, zero, suc, ◌+◌, ◌-◌, ◌/◌, ◌%◌, ◌^◌, ◌≤◌, ◌<◌, Bool, cond, ◌≡◌, eqb}
use Rattle.std.proofs.Common.{sym, ap, ap₂, ◌∙◌, pow-suc, arith, eq-eqb, ne_eqb, shr-shr}
use Rattle.std.proofs.Math.Decide.{ℕ_discrete}
use Rattle.std.specs.Int.Count.{ones, ones_in, ones_step}
use Rattle.graph.specs.Graph.{sum}
use Rattle.graph.specs.Sets.{has}
use Rattle.graph.specs.Sums.{sum_cong, sum_split}

digit : (x : ℕ) → cond (eqb (x % 2) 1) 1 0 ≡ x % 2
digit x = elim (ℕ_discrete (x % 2) 1) [ yes e ↦ rw (eq-eqb (x % 2) 1 e) (omega arith) | no e ↦ rw (ne_eqb (x % 2) 1 e) (omega arith) ]

lowest : (m : ℕ) → m % 2 ≡ cond (has m 1) 1 0
unfolding has
lowest m = let e : m / 2 ^ (1 - 1) ≡ m = omega arith in sym (ap (λ (x : ℕ). cond (eqb (x % 2) 1) 1 0) e ∙ digit m)

-- without the lowest digit each stands one place lower
lower : (m v : ℕ) → 1 ≤ v → has (m / 2) v ≡ has m (1 + v)
unfolding has
lower m v l =
    let e : 1 + (v - 1) ≡ 1 + v - 1 = omega arith in
    ap (λ (x : ℕ). eqb (x % 2) 1) (shr-shr m 1 (v - 1) ∙ ap (λ (x : ℕ). m / 2 ^ x) e)

pub count_atoms : (n m : ℕ) → m < 2 ^ n → ones m ≡ sum n (λ v. cond (has m v) 1 0)
unfolding sum ones ones_in
count_atoms zero m l = let e : m ≡ 0 = omega arith in rw e
count_atoms (suc n) m l =
    let e : 1 + n ≡ suc n = omega arith in
    ones_step m
    ∙ ap₂ ◌+◌ (lowest m) (count_atoms n (m / 2) (omega (arith, pow-suc 2 n)) ∙ sum_cong n (λ v w. ap (λ (t : Bool). cond t 1 0) (lower m v w.low)))
    ∙ omega (arith, sum_split 1 n (λ v. cond (has m v) 1 0)) ∙ ap (λ (x : ℕ). sum x (λ v. cond (has m v) 1 0)) e
