-- How many atoms sets have together, one set more or four at a time. Assumes nothing.
use Prim.Native.Nat.{ℕ, suc, ◌+◌, ◌-◌, ◌*◌, ◌^◌, ◌≤◌, ◌<◌}
use mathlib.Core.List.{List}
use mathlib.Core.Path.{◌≡◌, refl, ap, ◌∙◌}
use native.Mathlib.Nat.{mod-eq_of_lt}
use native.Mathlib.Numerals.{add-one}
use native.Mathlib.Omega.{arith}
use lib.Count.{ones, ones_cat}
use lib.ListN.{get_or}
use lib.Pow.{pow_mono}
use Rattle.graph.specs.Graph.{sum}
use Rattle.reach.specs.Reach.{Fit, Low, together_in, few_atoms, side, low}

module _ (sets : List ℕ) where
  pub one_more : (i j : ℕ) → j ≡ i + 1 → together_in sets j ≡ together_in sets i + ones (get_or sets i 0)
  unfolding sum
  one_more i j e = let k : suc i - 1 ≡ i = omega arith in rw (e, add-one i, k) refl

  whole : (q : ℕ) → Low (4 * q) sets → (p : ℕ) → p < 4 * q → ones (low (get_or sets p 0)) ≡ ones (get_or sets p 0)
  whole q L p l = ap ones (mod-eq_of_lt (L p l))

  pub four_more : (q k : ℕ) → Low (4 * q) sets → k < q
      → together_in sets (4 * k) + (ones (low (get_or sets (4 * k + 3) 0)) + ones (low (get_or sets (4 * k + 2) 0)) + ones (low (get_or sets (4 * k + 1) 0)) + ones (low (get_or sets (4 * k) 0)))
      ≡ together_in sets (4 * (k + 1))
  four_more q k L l =
      let a : together_in sets (4 * k + 1) ≡ together_in sets (4 * k) + ones (get_or sets (4 * k) 0) = one_more _ _ (omega arith) in
      let b : together_in sets (4 * k + 2) ≡ together_in sets (4 * k + 1) + ones (get_or sets (4 * k + 1) 0) = one_more _ _ (omega arith) in
      let c : together_in sets (4 * k + 3) ≡ together_in sets (4 * k + 2) + ones (get_or sets (4 * k + 2) 0) = one_more _ _ (omega arith) in
      let d : together_in sets (4 * (k + 1)) ≡ together_in sets (4 * k + 3) + ones (get_or sets (4 * k + 3) 0) = one_more _ _ (omega arith) in
      omega (arith, a, b, c, d, whole q L (4 * k) (omega arith), whole q L (4 * k + 1) (omega arith), whole q L (4 * k + 2) (omega arith), whole q L (4 * k + 3) (omega arith))

  -- sets of few atoms are low
  pub fit_low : (n q : ℕ) → 4 * q ≤ n → (0 < q → n ≤ few_atoms) → Fit n sets → Low (4 * q) sets
  fit_low n q l h F p w =
      let k : p + 1 - 1 ≡ p = omega arith in
      let f = rw k at (F (p + 1) (omega arith)) in
      let m : 2 ^ n ≤ side = pow_mono (h (omega arith)) in
      omega (arith, f, m)

-- sets side by side have as many atoms as both
beside : (x r : ℕ) → ones (x * side + low r) ≡ ones x + ones (low r)
beside x r = ones_cat few_atoms x (low r) (omega arith)

pub four_beside : (a b c d : ℕ) → ones (((low d * side + low c) * side + low b) * side + low a) ≡ ones (low d) + ones (low c) + ones (low b) + ones (low a)
four_beside a b c d =
    beside ((low d * side + low c) * side + low b) a
    ∙ ap (λ (x : ℕ). x + ones (low a)) (beside (low d * side + low c) b ∙ ap (λ (x : ℕ). x + ones (low b)) (beside (low d) c))
