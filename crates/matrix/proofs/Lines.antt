-- How what a row's entries, and the rows, add up to grows by one. Assumes nothing.
use Prim.Native.Nat.{ℕ, suc, ◌+◌, ◌-◌, ◌*◌, ◌%◌, ◌≤◌, ◌<◌, max}
use mathlib.Core.List.{List, []}
use mathlib.Core.Path.{◌≡◌, refl, sym, ap, ◌∙◌}
use native.Mathlib.Decide.{ℕ_discrete}
use native.Mathlib.Numerals.{add-one}
use native.Mathlib.Omega.{arith}
use borrow.Author.Tests.{eq-eqb, ne_eqb}
use lib.Dec.{eqb}
use lib.ListN.{get_or}
use mir.Val.{bool_byte}
use Rattle.graph.specs.Graph.{Within, sum, sum_pairs, even_of, odd_of, is_at}
use Rattle.graph.specs.Farthest.{most, most_pairs}
use Rattle.graph.specs.Parts.{parts_of}
use Rattle.graph.specs.Sums.{sum_cong, sum_pairs_add, sum_pairs_cong}
use Rattle.graph.specs.Largest.{most_cong}
use Rattle.block.specs.Block.{most_atoms}
use Rattle.block.specs.Sums.{entry}
use Rattle.block.specs.Told.{distance_found}
use Rattle.block.proofs.Tallies.{bit_low, bit_at, odd_low}
use Rattle.matrix.specs.Matrix.{in_row, matrix_indices}
use Rattle.matrix.specs.Work.{LineOf, UpTo}

odd_product : (d : ℕ) → d * (d % 2) ≡ odd_of d
unfolding odd_of
odd_product d = elim (ℕ_discrete (d % 2) 0) [
  | yes e ↦ rw (eq-eqb (d % 2) 0 e, e) (omega arith)
  | no e ↦ let o : d % 2 ≡ 1 = omega arith in rw (ne_eqb (d % 2) 0 e, o) (omega arith)
]

pub line_none : (row : List ℕ) → LineOf row 0 0 0 0 0
unfolding sum most
line_none row = record { all_is = refl; odd_is = refl; threes_is = refl; top_is = refl; low = omega arith }

pub line_more : (row : List ℕ) (j all odd threes top : ℕ) → LineOf row j all odd threes top → (d : ℕ) → d ≡ get_or row j 0 → d ≤ 255 → (t : ℕ) → t ≡ max top d
    → LineOf row (j + 1) (all + d) (odd + d * (d % 2)) (threes + bool_byte (eqb d 3)) t
unfolding sum most
line_more row j all odd threes top L d e l t q =
    let k : suc j - 1 ≡ j = omega arith in
    let s : d ≡ entry row (suc j) = rw k e in
    record {
      all_is = rw (add-one j, ← s, L.all_is);
      odd_is = rw (add-one j, ← s, L.odd_is, odd_product d);
      threes_is = rw (add-one j, ← s, L.threes_is, bit_at 3 d);
      top_is = rw (add-one j, ← s, q, L.top_is);
      low = omega (arith, L.low, odd_low d, bit_low (eqb d 3));
    }

pub up_none : (rows : List (List ℕ)) → UpTo rows 0 0 0 0 0
unfolding sum_pairs most_pairs
up_none rows = record { all_is = refl; odd_is = refl; threes_is = refl; top_is = refl; low = omega arith }

-- the row of atom k + 1 has, for the atoms before it, what the matrix says of them
module _ (rows : List (List ℕ)) (k : ℕ) (h : k < most_atoms) (row : List ℕ) (e : row ≡ get_or rows k []) where
  there : {i : ℕ} → Within k i → entry row i ≡ in_row rows i (suc k)
  there {i} w =
      let z : suc k - 1 ≡ k = omega arith in
      ap (λ (l : List ℕ). get_or l (i - 1) 0) e ∙ sym (distance_found rows (suc k) i (omega arith) (omega arith) ∙ ap (λ (j : ℕ). get_or (get_or rows j []) (i - 1) 0) z)

  pub up_more : (all odd threes top a o t m : ℕ) → UpTo rows k all odd threes top → LineOf row k a o t m → (u : ℕ) → u ≡ max top m → UpTo rows (k + 1) (all + a) (odd + o) (threes + t) u
  unfolding sum_pairs most_pairs
  up_more all odd threes top a o t m U L u q = record {
    all_is = rw (add-one k, U.all_is, L.all_is, sum_cong k (λ i w. there w));
    odd_is = rw (add-one k, U.odd_is, L.odd_is, sum_cong k (λ i w. ap odd_of (there w)));
    threes_is = rw (add-one k, U.threes_is, L.threes_is, sum_cong k (λ i w. ap (is_at 3) (there w)));
    top_is = rw (add-one k, q, U.top_is, L.top_is, most_cong k (λ i w. there w));
    low = omega (arith, U.low, L.low);
  }

pub up_end : (rows : List (List ℕ)) (m w odd threes top : ℕ) → UpTo rows m w odd threes top →
    record { atoms = m; w = w; even = w - odd; odd = odd; polarity = threes; largest = top } ≡ matrix_indices rows m
unfolding matrix_indices
up_end rows m w odd threes top U =
    let whole : sum_pairs m (λ i j. even_of (in_row rows i j)) + sum_pairs m (λ i j. odd_of (in_row rows i j)) ≡ sum_pairs m (λ i j. in_row rows i j)
    = sym (sum_pairs_add m (λ i j. even_of (in_row rows i j)) (λ i j. odd_of (in_row rows i j))) ∙ sum_pairs_cong m (λ i j v w. parts_of.parts (in_row rows i j)) in
    let v : w - odd ≡ sum_pairs m (λ i j. even_of (in_row rows i j)) = omega (arith, whole, U.all_is, U.odd_is) in
    λ k. record { atoms = m; w = U.all_is k; even = v k; odd = U.odd_is k; polarity = U.threes_is k; largest = U.top_is k }
