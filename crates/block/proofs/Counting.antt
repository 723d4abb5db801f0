-- How often each distance occurs, counted row by row. Assumes nothing.
use Prim.Native.Nat.{ℕ, zero, suc, ◌+◌, ◌*◌, ◌-◌, ◌≤◌, ◌<◌}
use mathlib.Core.List.{List}
use mathlib.Core.Path.{◌≡◌, refl, sym, subst⁻¹, ◌∙◌}
use native.Mathlib.Decide.{ℕ_discrete}
use native.Mathlib.Numerals.{add-one}
use native.Mathlib.Omega.{arith}
use borrow.Author.Tests.{eq-eqb, ne_eqb}
use lib.ListN.{length, get_or, set, length-set, replicate}
use lib.Seq.{get_or-set_same, get_or-set_other, ext_get_or}
use Rattle.graph.specs.Graph.{sum, sum_pairs, is_at}
use Rattle.half.specs.Half.{row_start, half_at}
use Rattle.block.specs.Block.{most_atoms}
use Rattle.block.specs.Rows.{table}
use Rattle.block.specs.Tables.{length-table, get_or-table}
use Rattle.block.specs.Sums.{counts_by}
use Rattle.block.specs.Tally.{run_at, Counts, CountsAdded}
use Rattle.block.specs.Lent.{zeros}
use Rattle.block.proofs.Summing.{by_rows, run_row, rows_upto}

at_here : (k d : ℕ) → k ≡ d → is_at k d ≡ 1
unfolding is_at
at_here k d e = rw (eq-eqb d k (sym e))

at_other : (k d : ℕ) → (k ≡ d → ⊥) → is_at k d ≡ 0
unfolding is_at
at_other k d ne = rw (ne_eqb d k (λ e. ne (sym e)))

at_low : (k d : ℕ) → is_at k d ≤ 1
at_low k d = elim (ℕ_discrete k d) [ yes e ↦ omega (arith, at_here k d e) | no ne ↦ omega (arith, at_other k d ne) ]

sum_low : (n d : ℕ) (f : ℕ → ℕ) → sum n (λ j. is_at d (f j)) ≤ n
unfolding sum
sum_low zero d f = omega arith
sum_low (suc n) d f = omega (arith, sum_low n d f, at_low d (f (suc n)))

-- numbers, one by one
pub count_none : (b : ℕ) (at : List ℕ) (d : ℕ → ℕ) → Counts b at → CountsAdded at d 0 at
unfolding sum
count_none b at d C = record { size = C.size; equal = λ x l. omega arith }

module _ (at : List ℕ) (f : ℕ → ℕ) (j : ℕ) (r : List ℕ) (C : CountsAdded at f j r) where
  pub count_low : (b d : ℕ) → Counts b at → d < most_atoms → get_or r d 0 ≤ b + j
  count_low b d A l = omega (arith, C.equal d l, A.most d, sum_low j d f)

  module _ (d : ℕ) (e : d ≡ f (suc j)) where
    step : (x : ℕ) → sum (j + 1) (λ j. is_at x (f j)) ≡ sum j (λ j. is_at x (f j)) + is_at x d
    unfolding sum
    step x = rw (add-one j, e)

    pub count_in : d < most_atoms → CountsAdded at f (j + 1) (set r d (get_or r d 0 + 1))
    count_in l = record {
      size = length-set r d _ ∙ C.size;
      equal = λ x m. elim (ℕ_discrete x d) [
        | yes q ↦
            let s : get_or (set r d (get_or r d 0 + 1)) x 0 ≡ get_or r x 0 + 1 = subst⁻¹ (λ (y : ℕ). get_or (set r d (get_or r d 0 + 1)) y 0 ≡ get_or r y 0 + 1) q (get_or-set_same r d _ 0 (omega (arith, C.size))) in
            omega (arith, step x, at_here x d q, C.equal x m)
        | no q ↦ omega (arith, step x, at_other x d q, C.equal x m, get_or-set_other r d x (get_or r d 0 + 1) 0 q)
      ];
    }

    pub count_out : most_atoms ≤ d → CountsAdded at f (j + 1) r
    count_out l = record {
      size = C.size;
      equal = λ x m. let ne : (x ≡ d → ⊥) = omega arith in omega (arith, step x, at_other x d ne, C.equal x m);
    }

-- the rows of a half, one by one
pub record PairsCounted (h : List ℕ) (m i : ℕ) (at : List ℕ) : Type 0 where
  pub size : length at ≡ most_atoms
  pub equal : (d : ℕ) → d < most_atoms → get_or at d 0 ≡ rows_upto h m i (is_at d)
  pub low : (d : ℕ) → get_or at d 0 ≤ most_atoms * i

pub pairs_none : (h : List ℕ) (m : ℕ) → PairsCounted h m 0 (replicate most_atoms 0)
unfolding sum
pairs_none h m = record { size = refl; equal = λ d l. zeros most_atoms d; low = λ d. omega (arith, zeros most_atoms d) }

module _ (h : List ℕ) (m i : ℕ) (at : List ℕ) (P : PairsCounted h m i at) (l : i < m) (s : m ≤ most_atoms) where
  pub pairs_counts : Counts (most_atoms * most_atoms) at
  pairs_counts = record { size = P.size; most = λ d. omega (arith, P.low d) }

  pub pairs_more : (from : ℕ) → from ≡ row_start (suc i) → (r : List ℕ) → CountsAdded at (run_at h from) (m - 1 - i) r → PairsCounted h m (i + 1) r
  unfolding sum
  pairs_more from e r C = record {
    size = C.size;
    equal = λ d n. rw (add-one i, C.equal d n, P.equal d n, run_row h m i from l s e (is_at d));
    low = λ d. elim (native.Mathlib.Decide.dec_lt d most_atoms) [
      | yes n ↦ omega (arith, C.equal d n, P.low d, sum_low (m - 1 - i) d (run_at h from))
      | no n ↦ omega (arith, lib.ListN.get_or-eq_default r 0 {n = d} (omega (arith, C.size)))
    ];
  }

pub pairs_end : (h : List ℕ) (m : ℕ) (at : List ℕ) → PairsCounted h m m at → at ≡ counts_by m (half_at h)
unfolding counts_by
pairs_end h m at P =
    ext_get_or 0 at (table most_atoms count) (P.size ∙ sym (length-table most_atoms count))
    (λ d l. let n : d < most_atoms = omega (arith, P.size) in P.equal d n ∙ by_rows m (λ i j. is_at d (half_at h i j)) ∙ sym (get_or-table most_atoms count d 0 n))
  where
    count : ℕ → ℕ
    count k = sum_pairs m (λ i j. is_at k (half_at h i j))
