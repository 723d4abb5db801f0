-- Laws. A row that is stored is read at its pairs, and changes no other atom's; and a row reads as the half does. Assumes nothing.
use Rattle.std.specs.Prelude.{ℕ, zero, suc, ◌+◌, ◌-◌, ◌≤◌, ◌<◌, min, List, [], ◌∷◌, ◌≡◌, refl, length, get_or, set}
use Rattle.std.proofs.Common.{sym, ◌∙◌, ap, arith, length-set, get_or-set_same, get_or-set_other}
use Rattle.std.proofs.Math.Decide.{dec_lt}
use borrow.Author.Tests.{ne_eqb, le-ltb}
use Rattle.std.proofs.lemmas.List.Edits.{sets}
use Rattle.std.proofs.Math.Seq.{length-sets}
use Rattle.half.specs.Half.{most_atoms, all_pairs, row_start, above_place, half_at, half_row, part_of, half_with_row}
use Rattle.half.specs.Tables.{get_or-table}
use Rattle.half.specs.Places.{Pair, start_last, start_next, start_most, place_is, place_high}
use Rattle.half.specs.Reads.{Sides, up, down, none, sides, up_reads, down_reads, none_reads}

pub length_part : (row : List ℕ) (j m : ℕ) → length (part_of row j m) ≡ m
unfolding part_of
length_part row j zero = refl
length_part row j (suc m) = ap suc (length_part row (suc j) m)

get_d_part : (row : List ℕ) (m j k : ℕ) → k < m → get_or (part_of row j m) k 0 ≡ get_or row (j + k) 0
unfolding part_of
get_d_part row zero j k l = absurd (omega arith)
get_d_part row (suc m) j zero l = let e : j + 0 ≡ j = omega arith in rw e
get_d_part row (suc m) j (suc k) l = let e : j + suc k ≡ suc j + k = omega arith in rw e (get_d_part row m (suc j) k (omega arith))

-- entries put one behind the other, and what stands elsewhere
sets_before : (vs l : List ℕ) (at p : ℕ) → p < at → get_or (sets l at vs) p 0 ≡ get_or l p 0
sets_before [] l at p h = refl
sets_before (v ∷ vs) l at p h = sets_before vs (set l at v) (suc at) p (omega arith) ∙ get_or-set_other l at p v 0 (λ e. omega arith)

sets_behind : (vs l : List ℕ) (at p : ℕ) → at + length vs ≤ p → get_or (sets l at vs) p 0 ≡ get_or l p 0
sets_behind [] l at p h = refl
sets_behind (v ∷ vs) l at p h = sets_behind vs (set l at v) (suc at) p (omega arith) ∙ get_or-set_other l at p v 0 (λ e. omega arith)

sets_in : (vs l : List ℕ) (at k : ℕ) → k < length vs → at + length vs ≤ length l → get_or (sets l at vs) (at + k) 0 ≡ get_or vs k 0
sets_in [] l at k h n = absurd (omega arith)
sets_in (v ∷ vs) l at zero h n =
    let e : at + 0 ≡ at = omega arith in
    rw e (sets_before vs (set l at v) (suc at) at (omega arith) ∙ get_or-set_same l at v 0 (omega arith))
sets_in (v ∷ vs) l at (suc k) h n =
    let e : at + suc k ≡ suc at + k = omega arith in
    rw e (sets_in vs (set l at v) (suc at) k (omega arith) (omega (arith, length-set l at v)))

module _ (h : List ℕ) (i : ℕ) (row : List ℕ) (n : ℕ) (low : 1 ≤ i) (high : i ≤ most_atoms) (size : length h ≡ all_pairs) where
  -- how many entries are stored
  abbrev few : ℕ
  few = min n most_atoms - i

  stores : half_with_row h i row n ≡ sets h (row_start i) (part_of row i few)
  unfolding half_with_row
  stores = rw (ne_eqb i 0 (omega arith), le-ltb most_atoms i high, le-ltb (length h) all_pairs (omega arith))

  pub row_size : length (half_with_row h i row n) ≡ all_pairs
  row_size = rw stores (length-sets h (row_start i) (part_of row i few) ∙ size)

  pub row_same : (l : ℕ) → Pair i l → l ≤ n → get_or (half_with_row h i row n) (above_place i l) 0 ≡ get_or row (l - 1) 0
  row_same l p q =
      let n = start_next i low (omega (arith, p.less, p.high)) in
      let m = start_most (suc i) most_atoms (omega arith) (omega (arith, p.less, p.high)) (omega arith) in
      let e : above_place i l ≡ row_start i + (l - i - 1) = place_is i l in
      let f : i + (l - i - 1) ≡ l - 1 = omega (arith, p.less) in
      rw (stores, e)
      (sets_in (part_of row i few) h (row_start i) (l - i - 1) (omega (arith, length_part row i few, p.less, p.high)) (omega (arith, length_part row i few, start_last))
      ∙ get_d_part row few i (l - i - 1) (omega (arith, p.less, p.high)) ∙ rw f)

  -- behind the n atoms nothing is stored
  pub row_past : (l : ℕ) → Pair i l → n < l → get_or (half_with_row h i row n) (above_place i l) 0 ≡ get_or h (above_place i l) 0
  row_past l p q = rw stores (sets_behind (part_of row i few) h (row_start i) (above_place i l) (omega (arith, length_part row i few, place_is i l, p.less)))

  pub row_other : (k l : ℕ) → Pair k l → (k ≡ i → ⊥) → get_or (half_with_row h i row n) (above_place k l) 0 ≡ get_or h (above_place k l) 0
  row_other k l p ne = rw stores (elim (dec_lt k i) [
    | yes u ↦ sets_before (part_of row i few) h (row_start i) (above_place k l) (omega (arith, place_high p, start_most (suc k) i (omega arith) u high))
    | no u ↦ sets_behind (part_of row i few) h (row_start i) (above_place k l)
        (omega (arith, length_part row i few, start_next i low (omega (arith, p.less, p.high)), start_most (suc i) k (omega arith) (omega arith) (omega (arith, p.less, p.high)), place_is k l))
  ])

  -- A STORED ROW IS READ at its pairs, either way round
  pub row_get_put : (l : ℕ) → Pair i l → l ≤ n → (half_at (half_with_row h i row n) i l ≡ get_or row (l - 1) 0) × (half_at (half_with_row h i row n) l i ≡ get_or row (l - 1) 0)
  row_get_put l p q = (up_reads (half_with_row h i row n) p ∙ row_same l p q, down_reads (half_with_row h i row n) p ∙ row_same l p q)

  -- AND CHANGES NO OTHER PAIR'S: none whose first atom is another
  pub row_half_other : (k l : ℕ) → (min k l ≡ i → ⊥) → half_at (half_with_row h i row n) k l ≡ half_at h k l
  row_half_other k l ne = go (sides k l)
    where
      go : Sides k l → half_at (half_with_row h i row n) k l ≡ half_at h k l
      go (up p) = up_reads (half_with_row h i row n) p ∙ row_other k l p (λ e. ne (omega (arith, p.less))) ∙ sym (up_reads h p)
      go (down p) = down_reads (half_with_row h i row n) p ∙ row_other l k p (λ e. ne (omega (arith, p.less))) ∙ sym (down_reads h p)
      go (none e) = none_reads (half_with_row h i row n) k l e ∙ sym (none_reads h k l e)

-- A ROW READS as the half does; so what is stored for two atoms stands in the rows of both
pub row_reads : (h : List ℕ) (i j : ℕ) → 1 ≤ j → j ≤ most_atoms → get_or (half_row h i) (j - 1) 0 ≡ half_at h i j
unfolding half_row
row_reads h i j low high =
    let e : suc (j - 1) ≡ j = omega arith in
    get_or-table most_atoms (λ k. half_at h i (suc k)) (j - 1) 0 (omega arith) ∙ ap (half_at h i) e
