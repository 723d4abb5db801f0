-- Laws. The lowest atom of a set that has one is taken out. Assumes nothing.
use Rattle.std.specs.Prelude.{ℕ, suc, ◌-◌, ◌^◌, ◌<◌, ◌≤◌, Bool, true, false, not, ◌&&◌, ◌||◌, ◌≢◌, ◌≡◌, refl, eqb}
use Rattle.std.proofs.Common.{ap, ◌∙◌, arith, eq-eqb, ne_eqb, pow_pos}
use Rattle.std.proofs.Math.Decide.{ℕ_discrete}
use Rattle.std.specs.Int.Bits.{bit_and, bit_xor}
use Rattle.std.specs.Int.Count.{count_trailing_zeros}
use Rattle.graph.specs.Sets.{has, alone}
use Rattle.graph.specs.SetLaws.{has_xor, has-alone, lowest, lowest_dropped, taken_one}

-- a set in k digits
module _ (k m : ℕ) (some : m ≢ 0) (fits : m < 2 ^ k) where
  abbrev p : ℕ
  p = count_trailing_zeros k m

  pub lowest_in : (p < k) × (has m (suc p) ≡ true)
  lowest_in = lowest k m (omega arith) fits

  rest_is : bit_and m (m - 1) ≡ bit_xor m (alone (suc p))
  rest_is = let q : p ≡ suc p - 1 = omega arith in lowest_dropped k m (omega arith) fits ∙ ap (λ (x : ℕ). bit_xor m (2 ^ x)) q

  pub rest_less : bit_and m (m - 1) < m
  rest_less = omega (arith, rest_is, taken_one m (suc p) lowest_in.1, pow_pos (suc p - 1))

  pub rest_has : (v : ℕ) → 1 ≤ v → has (bit_and m (m - 1)) v ≡ (has m v && not (eqb v (suc p)))
  rest_has v l =
      ap (λ (x : ℕ). has x v) rest_is
      ∙ has_xor m (alone (suc p)) v
      ∙ rw (has-alone (suc p) v (omega arith) l) (elim (ℕ_discrete v (suc p)) [
        | yes e ↦ rw (eq-eqb v (suc p) e, e, lowest_in.1) refl
        | no e ↦ rw (ne_eqb v (suc p) e) (plain (has m v))
      ])
    where
      plain : (t : Bool) → ((t && not false) || (not t && false)) ≡ (t && not false)
      plain true = refl
      plain false = refl
