-- Laws. The number of two placed atoms climbs from the later placement to its parent, and stays as it is with every placement more. Assumes nothing.
use Prim.Native.Nat.{ℕ, zero, suc, ◌+◌, ◌-◌, ◌≤◌, ◌<◌}
use Rattle.std.proofs.Common.{⊎_elim, sym, ◌∙◌, ap₂}
use Rattle.std.specs.Prelude.{◌≡◌}
use Rattle.std.proofs.Math.Path.{refl, ap}
use Rattle.std.proofs.Math.Nat.{le-suc_iff}
use native.Mathlib.Omega.{arith}
use Rattle.graph.specs.Graph.{Within}
use Rattle.graph.specs.Assembly.{Join}
use Rattle.joining.specs.Parts.{Part, far_in, sight_in, six_in, grow, join_six}
use Rattle.joining.proofs.Whole.{far_old, far_on, far_off, far_new, sight_old, sight_new}

module _ (parts : ℕ → Part) (joins : ℕ → Join) where
  pub far_keeps : (n m k i l j : ℕ) → m ≤ n → k ≤ m → l ≤ m → far_in parts joins n k i l j ≡ far_in parts joins m k i l j
  far_keeps zero m k i l j h p q = let e : 0 ≡ m = omega arith in ap (λ (x : ℕ). far_in parts joins x k i l j) e
  far_keeps (suc n) m k i l j h p q =
      ⊎_elim (λ r. far_old parts joins n k i l j (omega arith) (omega arith) ∙ far_keeps n m k i l j r p q) (λ r. ap (λ (x : ℕ). far_in parts joins x k i l j) (sym r)) (le-suc_iff.0 h)

  -- at the index itself
  at_same : (k i j : ℕ) → far_in parts joins k k i k j ≡ (parts k).far i j
  unfolding far_in
  at_same zero i j = refl
  at_same (suc m) i j = far_new parts joins m (suc m) i (suc m) j refl refl

  pub far_same : (n k i j : ℕ) → k ≤ n → far_in parts joins n k i k j ≡ (parts k).far i j
  far_same n k i j h = far_keeps n k k i k j h (omega arith) (omega arith) ∙ at_same k i j

  at_later : (k i l j : ℕ) → l < k → Within k (joins k).parent
      → far_in parts joins k k i l j ≡ (parts k).far (joins k).own i + 1 + far_in parts joins (k - 1) ((joins k).parent - 1) (joins k).site l j
  at_later zero i l j h w = absurd (omega arith)
  at_later (suc m) i l j h w =
      let e : m ≡ suc m - 1 = omega arith in
      far_off parts joins m (suc m) i l j refl (omega arith) ∙ ap (λ (x : ℕ). (parts (suc m)).far (joins (suc m)).own i + 1 + far_in parts joins x ((joins (suc m)).parent - 1) (joins (suc m)).site l j) e

  at_earlier : (k i l j : ℕ) → k < l → Within l (joins l).parent
      → far_in parts joins l k i l j ≡ far_in parts joins (l - 1) ((joins l).parent - 1) (joins l).site k i + 1 + (parts l).far (joins l).own j
  at_earlier k i zero j h w = absurd (omega arith)
  at_earlier k i (suc m) j h w =
      let e : m ≡ suc m - 1 = omega arith in
      far_on parts joins m k i (suc m) j (omega arith) refl ∙ ap (λ (x : ℕ). far_in parts joins x ((joins (suc m)).parent - 1) (joins (suc m)).site k i + 1 + (parts (suc m)).far (joins (suc m)).own j) e

  pub far_later : (n k i l j : ℕ) → k ≤ n → l < k → Within k (joins k).parent
      → far_in parts joins n k i l j ≡ (parts k).far (joins k).own i + 1 + far_in parts joins n ((joins k).parent - 1) (joins k).site l j
  far_later n k i l j h q w =
      far_keeps n k k i l j h (omega arith) (omega arith) ∙ at_later k i l j q w
      ∙ ap (λ (x : ℕ). (parts k).far (joins k).own i + 1 + x) (sym (far_keeps n (k - 1) ((joins k).parent - 1) (joins k).site l j (omega arith) (omega arith) (omega arith)))

  pub far_earlier : (n k i l j : ℕ) → l ≤ n → k < l → Within l (joins l).parent
      → far_in parts joins n k i l j ≡ far_in parts joins n ((joins l).parent - 1) (joins l).site k i + 1 + (parts l).far (joins l).own j
  far_earlier n k i l j h q w =
      far_keeps n l k i l j h (omega arith) (omega arith) ∙ at_earlier k i l j q w
      ∙ ap (λ (x : ℕ). x + 1 + (parts l).far (joins l).own j) (sym (far_keeps n (l - 1) ((joins l).parent - 1) (joins l).site k i (omega arith) (omega arith) (omega arith)))

  -- what is counted from an atom of the placement at an index that is not 0, once it stands, and once the next one does
  pub sight_here : (k i : ℕ) → 1 ≤ k
      → sight_in parts joins k k i ≡ grow ((parts k).sight i) ((parts k).far (joins k).own i) (sight_in parts joins (k - 1) ((joins k).parent - 1) (joins k).site)
  sight_here zero i h = absurd (omega arith)
  sight_here (suc m) i h =
      let e : m ≡ suc m - 1 = omega arith in
      sight_new parts joins m (suc m) i refl
      ∙ ap (λ (x : ℕ). grow ((parts (suc m)).sight i) ((parts (suc m)).far (joins (suc m)).own i) (sight_in parts joins x ((joins (suc m)).parent - 1) (joins (suc m)).site)) e

  pub sight_there : (n m k i : ℕ) → 1 ≤ m → m ≤ n → k < m → Within m (joins m).parent
      → sight_in parts joins m k i ≡ grow (sight_in parts joins (m - 1) k i) (far_in parts joins n ((joins m).parent - 1) (joins m).site k i) ((parts m).sight (joins m).own)
  sight_there n zero k i h l p w = absurd (omega arith)
  sight_there n (suc m) k i h l p w =
      let e : m ≡ suc m - 1 = omega arith in
      sight_old parts joins m k i (omega arith)
      ∙ ap₂ (λ (x d : ℕ). grow (sight_in parts joins x k i) d ((parts (suc m)).sight (joins (suc m)).own)) e
      (sym (far_keeps n m ((joins (suc m)).parent - 1) (joins (suc m)).site k i (omega arith) (omega arith) (omega arith)))

  -- the six fields once the placement at an index that is not 0 stands
  pub six_here : (k : ℕ) → 1 ≤ k
      → six_in parts joins k ≡ join_six (six_in parts joins (k - 1)) (parts k).six (sight_in parts joins (k - 1) ((joins k).parent - 1) (joins k).site) ((parts k).sight (joins k).own)
  unfolding six_in
  six_here zero h = absurd (omega arith)
  six_here (suc m) h =
      let e : m ≡ suc m - 1 = omega arith in
      ap (λ (x : ℕ). join_six (six_in parts joins x) (parts (suc m)).six (sight_in parts joins x ((joins (suc m)).parent - 1) (joins (suc m)).site) ((parts (suc m)).sight (joins (suc m)).own)) e
