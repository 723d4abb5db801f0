-- A place is worked out, read and written. Assumes nothing.
use Prim.Native.Nat.{ℕ, ◌*◌, ◌-◌, ◌≤◌, ◌<◌}
use mathlib.Core.Bool.{Bool, true, false, true≢false}
use mathlib.Core.List.{List}
use mathlib.Core.Path.{◌≡◌, refl, sym, ◌∙◌}
use native.Mathlib.Nat.{mul-le-mul}
use native.Mathlib.Omega.{arith}
use lib.ListN.{length, get_or, set}
use lib.Seq.{set_out}
use Rattle.half.specs.Half.{most_atoms, all_pairs, row_start, no_pair, pair_place, half_at, half_with}
use Rattle.half.specs.Places.{Pair, start_last, start_most}
use Rattle.half.specs.Reads.{Sides, up, down, none, sides, none_place, pair_below, pair_reads, pair_stores, none_reads, none_stores}

pub corner : (i : ℕ) → 1 ≤ i → i ≤ most_atoms → (i - 1) * (2 * most_atoms - i) ≤ 63 * 127
corner i l h = mul-le-mul {n₂ = 63} {m₂ = 127} (omega arith) (omega arith)

pub start_low : (i : ℕ) → 1 ≤ i → i ≤ most_atoms → row_start i ≤ all_pairs
start_low i l h = omega (arith, start_most i most_atoms l h (omega arith), start_last)

-- two atoms that are a pair, the smaller first
pub is_up : (i j : ℕ) → no_pair i j ≡ false → i < j → Pair i j
is_up i j e l = go (sides i j)
  where
    go : Sides i j → Pair i j
    go (up p) = p
    go (down p) = absurd (omega (arith, p.less))
    go (none f) = absurd (true≢false (sym f ∙ e))

pub is_down : (i j : ℕ) → no_pair i j ≡ false → j ≤ i → Pair j i
is_down i j e l = go (sides i j)
  where
    go : Sides i j → Pair j i
    go (up p) = absurd (omega (arith, p.less))
    go (down p) = p
    go (none f) = absurd (true≢false (sym f ∙ e))

-- a place tells whether two atoms are a pair
module _ (i j p : ℕ) (e : p ≡ pair_place i j) where
  is_pair : p < all_pairs → no_pair i j ≡ false
  is_pair l = go (no_pair i j) refl
    where
      go : (t : Bool) → no_pair i j ≡ t → no_pair i j ≡ false
      go true f = absurd (omega (arith, none_place i j f))
      go false f = f

  is_none : all_pairs ≤ p → no_pair i j ≡ true
  is_none l = go (no_pair i j) refl
    where
      go : (t : Bool) → no_pair i j ≡ t → no_pair i j ≡ true
      go true f = f
      go false f = absurd (omega (arith, pair_below i j f))

  module _ (h : List ℕ) where
    pub get_some : p < all_pairs → get_or h p 0 ≡ half_at h i j
    get_some l = rw e (sym (pair_reads i j (is_pair l) h))

    pub get_none : all_pairs ≤ p → 0 ≡ half_at h i j
    get_none l = sym (none_reads h i j (is_none l))

    pub put_some : (x : ℕ) → p < all_pairs → set h p x ≡ half_with h i j x
    put_some x l = rw e (sym (pair_stores i j (is_pair l) h x))

    pub put_out : (x : ℕ) → p < all_pairs → length h ≤ p → h ≡ half_with h i j x
    put_out x l n = sym (set_out h p x n) ∙ put_some x l

    pub put_none : (x : ℕ) → all_pairs ≤ p → h ≡ half_with h i j x
    put_none x l = sym (none_stores h i j x (is_none l))
