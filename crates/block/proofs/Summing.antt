-- The pairs row by row, and one tally as the vertex sums. Assumes nothing.
use Prim.Native.Nat.{ℕ, zero, suc, ◌+◌, ◌-◌, ◌≤◌, ◌<◌}
use mathlib.Core.List.{List}
use mathlib.Core.Path.{◌≡◌, refl, sym, ap, ◌∙◌}
use native.Mathlib.Numerals.{add-one}
use native.Mathlib.Omega.{arith}
use Rattle.graph.specs.Graph.{Within, sum, sum_pairs, even_of, odd_of}
use Rattle.graph.specs.Sums.{sum_add, sum_cong}
use Rattle.graph.specs.Parts.{parts_of}
use Rattle.half.specs.Half.{all_pairs, row_start, above_place, half_at}
use Rattle.half.specs.Places.{Pair, start_last, start_next, start_most, place_is, place_below}
use Rattle.half.specs.Reads.{up_reads}
use Rattle.block.specs.Block.{most_atoms}
use Rattle.block.specs.Sums.{entry, vertex_by}
use Rattle.block.specs.Tally.{tally_by, Tallied, run_at}
use Rattle.block.specs.declared.Tally.{Tally}

sum_whole : (n : ℕ) (d : ℕ → ℕ) → sum n (λ j. even_of (d j)) + sum n (λ j. odd_of (d j)) ≡ sum n (λ j. d j)
sum_whole n d = sym (sum_add n (λ j. even_of (d j)) (λ j. odd_of (d j))) ∙ sum_cong n (λ j w. parts_of.parts (d j))

pub vertex_total : (row : List ℕ) (k : ℕ) (t : Tally) (far x : ℕ) → Tallied row k t → x ≡ far →
    record { sum = t.even + t.odd; even = t.even; odd = t.odd; evens = t.evens; odds = t.odds; ones = t.ones; twos = t.twos; farthest = x } ≡ vertex_by k (entry row) far
unfolding tally_by vertex_by
vertex_total row k t far x T e = rw (T.equal, sum_whole k (entry row), e)

-- THE PAIRS ROW BY ROW: with each atom i those of i and a later one
pub by_rows : (n : ℕ) (f : ℕ → ℕ → ℕ) → sum n (λ i. sum (n - i) (λ j. f i (i + j))) ≡ sum_pairs n f
unfolding sum sum_pairs
by_rows zero f = refl
by_rows (suc n) f = omega (arith, longer, sum_add n (λ i. sum (n - i) (λ j. f i (i + j))) (λ i. f i (suc n)), by_rows n f, last)
  where
    more : (i : ℕ) → Within n i → sum (suc n - i) (λ j. f i (i + j)) ≡ sum (n - i) (λ j. f i (i + j)) + f i (suc n)
    more i w =
        let e : suc n - i ≡ suc (n - i) = omega arith in
        let k : i + suc (n - i) ≡ suc n = omega arith in
        rw (e, k)

    longer : sum n (λ i. sum (suc n - i) (λ j. f i (i + j))) ≡ sum n (λ i. sum (n - i) (λ j. f i (i + j)) + f i (suc n))
    longer = sum_cong n more

    last : sum (suc n - suc n) (λ j. f (suc n) (suc n + j)) ≡ 0
    last = let e : suc n - suc n ≡ 0 = omega arith in rw e

-- the row of atom i + 1 in a half, as far as the atoms go
module _ (h : List ℕ) (m i from : ℕ) (l : i < m) (s : m ≤ most_atoms) (e : from ≡ row_start (suc i)) where
  pub run_fits : (m - 1 - i ≤ most_atoms) × (from + (m - 1 - i) ≤ all_pairs)
  run_fits = (omega arith, go (m - 1 - i) refl)
    where
      go : (k : ℕ) → m - 1 - i ≡ k → from + (m - 1 - i) ≤ all_pairs
      go zero q = omega (arith, start_most (suc i) most_atoms (omega arith) (omega arith) (omega arith), start_last)
      go (suc k) q =
          let P : Pair (suc i) m = record { low = omega arith; less = omega arith; high = s } in
          omega (arith, place_below P, place_is (suc i) m)

  pub run_row : (f : ℕ → ℕ) → sum (m - 1 - i) (λ j. f (run_at h from j)) ≡ sum (m - suc i) (λ j. f (half_at h (suc i) (suc i + j)))
  run_row f =
      let k : m - 1 - i ≡ m - suc i = omega arith in
      rw k (sum_cong (m - suc i) (λ j w. ap f (same j w)))
    where
      same : (j : ℕ) → Within (m - suc i) j → run_at h from j ≡ half_at h (suc i) (suc i + j)
      same j w =
          let P : Pair (suc i) (suc i + j) = record { low = omega arith; less = omega arith; high = omega arith } in
          let q : from + (j - 1) ≡ above_place (suc i) (suc i + j) = omega (arith, place_is (suc i) (suc i + j)) in
          rw q (sym (up_reads h P))

-- where the next row begins
pub from_next : (i from : ℕ) → i < most_atoms → from ≡ row_start (suc i) → (from + (63 - i) ≡ row_start (suc (i + 1))) × (from ≤ all_pairs)
from_next i from l e =
    rw (add-one i) (omega (arith, start_next (suc i) (omega arith) (omega arith)), omega (arith, start_most (suc i) most_atoms (omega arith) (omega arith) (omega arith), start_last))

-- what the rows of the first i atoms add up to, of m
abbrev pub rows_upto : List ℕ → ℕ → ℕ → (ℕ → ℕ) → ℕ
rows_upto h m i f = sum i (λ i. sum (m - i) (λ j. f (half_at h i (i + j))))
