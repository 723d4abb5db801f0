-- A row is read out of a half, and stored in it. Assumes nothing.
use Prim.Native.Nat.{ℕ, zero, suc, ◌+◌, ◌*◌, ◌-◌, ◌≤◌, ◌<◌, min}
use mathlib.Core.Bool.{true, false}
use mathlib.Core.List.{List}
use mathlib.Core.Path.{◌≡◌, refl, sym, ◌∙◌, subst}
use native.Mathlib.Decide.{ℕ_discrete}
use native.Mathlib.Numerals.{add-one}
use native.Mathlib.Omega.{arith}
use borrow.Author.Tests.{eqb-false, ltb-false, lt-ltb, le-ltb}
use lib.Dec.{eqb, ltb}
use lib.ListN.{length, get_or, set, replicate, length-set}
use lib.Seq.{sets, get_or-set_same, get_or-set_other, ext_get_or}
use Rattle.reply.specs.Read.{is_outside}
use Rattle.reply.specs.Chain.{neither}
use Rattle.half.specs.Half.{most_atoms, all_pairs, table, row_start, above_place, no_pair, half_at, part_of, half_row, half_with_row}
use Rattle.half.specs.Tables.{length-table, get_or-table}
use Rattle.half.specs.Places.{Pair, start_first, start_next, place_is, place_below}
use Rattle.half.specs.Reads.{up_reads, down_reads, none_reads, none_first, self_reads}
use Rattle.half.specs.Work.{Upto}

pub atom : (i : ℕ) → is_outside most_atoms i ≡ false → (1 ≤ i) × (i ≤ most_atoms)
atom i e =
    let r = neither (eqb i 0) (ltb most_atoms i) e in
    let z : (i ≡ 0 → ⊥) = eqb-false i 0 r.0 in
    (omega arith, ltb-false most_atoms i r.1)

zeros : (m k : ℕ) → ◌≡◌ {A = ℕ} (get_or (replicate m 0) k 0) 0
zeros zero k = refl
zeros (suc m) zero = refl
zeros (suc m) (suc k) = zeros m k

-- down a column: from the row of atom j to the next
column_next : (i j : ℕ) → 1 ≤ j → j + 1 < i → i ≤ most_atoms → above_place (j + 1) i ≡ above_place j i + (most_atoms - 1 - j)
column_next i j l h m = rw (add-one j) (omega (arith, place_is j i, place_is (suc j) i, start_next j l (omega arith)))

module _ (h : List ℕ) (i : ℕ) where
  upto_none : Upto h i 0 (replicate most_atoms 0)
  upto_none = record { size = refl; told = λ j l. absurd (omega arith); rest = λ j l. zeros most_atoms j }

  -- one byte more
  upto_next : (k : ℕ) (line : List ℕ) (x : ℕ) → Upto h i k line → k < most_atoms → x ≡ half_at h i (1 + k) → Upto h i (k + 1) (set line k x)
  upto_next k line x U l e = record {
    size = length-set line k x ∙ U.size;
    told = λ j m. elim (ℕ_discrete j k) [
      | yes q ↦ rw q (get_or-set_same line k x 0 (omega (arith, U.size)) ∙ e)
      | no q ↦ get_or-set_other line k j x 0 q ∙ U.told j (omega arith)
    ];
    rest = λ j m. get_or-set_other line k j x 0 (λ q. omega arith) ∙ U.rest j (omega arith);
  }

  -- the atom itself
  upto_own : (k : ℕ) (line : List ℕ) → Upto h i k line → k + 1 ≡ i → Upto h i i line
  upto_own k line U e = record {
    size = U.size;
    told = λ j m. elim (ℕ_discrete (1 + j) i) [
      | yes q ↦ U.rest j (omega arith) ∙ sym (rw q (self_reads h i))
      | no q ↦ U.told j (omega arith)
    ];
    rest = λ j m. U.rest j (omega arith);
  }

  pub upto_end : (line : List ℕ) → Upto h i most_atoms line → line ≡ half_row h i
  unfolding half_row
  upto_end line U =
      ext_get_or 0 line (table most_atoms (λ j. half_at h i (suc j))) (U.size ∙ sym (length-table most_atoms (λ j. half_at h i (suc j))))
      (λ j l. let m : j < most_atoms = omega (arith, U.size) in U.told j m ∙ rw (one_add j) (sym (get_or-table most_atoms (λ j. half_at h i (suc j)) j 0 m)))
    where
      one_add : (j : ℕ) → 1 + j ≡ suc j
      one_add j = omega arith

-- down a column: the line as far as atom j, with p two behind the byte of j
pub record Down (h : List ℕ) (i : ℕ) (line : List ℕ) (p j : ℕ) : Type 0 where
  pub low : 1 ≤ j
  pub high : j ≤ i
  pub most : i ≤ most_atoms
  pub sofar : Upto h i (j - 1) line
  pub here : j < i → p ≡ above_place j i + 2
  pub near : p ≤ all_pairs + 2 + 64 * j

pub down_first : (h : List ℕ) (i : ℕ) → 1 ≤ i → i ≤ most_atoms → Down h i (replicate most_atoms 0) i 1
down_first h i l m = record {
  low = omega arith;
  high = l;
  most = m;
  sofar = upto_none h i;
  here = λ g. omega (arith, place_is 1 i, start_first);
  near = omega arith;
}

module _ {h : List ℕ} {i : ℕ} {line : List ℕ} {p j : ℕ} (D : Down h i line p j) (l : j < i) where
  pub down_pair : Pair j i
  down_pair = record { low = D.low; less = l; high = D.most }

  pub down_place : (2 ≤ p) × (p - 2 < all_pairs)
  down_place = omega (arith, D.here l, place_below down_pair)

  pub down_next : Down h i (set line (j - 1) (get_or h (p - 2) 0)) (p + (63 - j)) (j + 1)
  down_next =
      let e : p - 2 ≡ above_place j i = omega (arith, D.here l) in
      let k : 1 + (j - 1) ≡ j = omega (arith, D.low) in
      let f : (j - 1) + 1 ≡ j + 1 - 1 = omega (arith, D.low) in
      record {
        low = omega arith;
        high = omega arith;
        most = D.most;
        sofar = subst (λ (x : ℕ). Upto h i x (set line (j - 1) (get_or h (p - 2) 0))) f (upto_next h i (j - 1) line (get_or h (p - 2) 0) D.sofar (omega (arith, D.low, D.most)) (rw (e, k) (sym (down_reads h down_pair))));
        here = λ g. omega (arith, D.here l, column_next i j D.low g D.most);
        near = omega (arith, D.near);
      }

pub down_last : {h : List ℕ} {i : ℕ} {line : List ℕ} {p j : ℕ} → Down h i line p j → i ≤ j → Upto h i i line
down_last {h} {i} {line} {p} {j} D l = upto_own h i (j - 1) line D.sofar (omega (arith, D.low, D.high))

-- along a row: the byte of the atom behind place j
pub along_next : (h : List ℕ) (i j from : ℕ) (line : List ℕ) → 1 ≤ i → i ≤ j → j < most_atoms → from ≡ row_start i → Upto h i j line → Upto h i (j + 1) (set line j (get_or h (from + (j - i)) 0))
along_next h i j from line l m n e U =
    let P : Pair i (1 + j) = record { low = l; less = omega arith; high = omega arith } in
    let q : from + (j - i) ≡ above_place i (1 + j) = omega (arith, place_is i (1 + j)) in
    upto_next h i j line (get_or h (from + (j - i)) 0) U n (rw q (sym (up_reads h P)))

pub along_place : (i j from : ℕ) → 1 ≤ i → i ≤ j → j < most_atoms → from ≡ row_start i → from + (j - i) < all_pairs
along_place i j from l m n e =
    let P : Pair i (1 + j) = record { low = l; less = omega arith; high = omega arith } in
    omega (arith, place_is i (1 + j), place_below P)

-- no atom: the row is all 0
pub row_none : (h : List ℕ) (i : ℕ) → is_outside most_atoms i ≡ true → replicate most_atoms 0 ≡ half_row h i
row_none h i o = upto_end h i (replicate most_atoms 0) (record { size = refl; told = λ j l. zeros most_atoms j ∙ sym (none_reads h i (1 + j) (out j)); rest = λ j l. zeros most_atoms j })
  where
    out : (j : ℕ) → no_pair i (1 + j) ≡ true
    out j = none_first i (1 + j) o

-- a row is stored byte by byte: what is left to store gives the answer
pub record Storing (old line : List ℕ) (i m : ℕ) (new : List ℕ) (p j : ℕ) : Type 0 where
  pub left : sets new p (part_of line j (m - j)) ≡ sets old (row_start i) (part_of line i (m - i))
  pub few : m ≤ most_atoms
  pub size : length new ≡ length old
  pub first : 1 ≤ i
  pub low : i ≤ j
  pub high : j ≤ most_atoms
  pub here : p ≡ row_start i + (j - i)

part_step : (line l : List ℕ) (p j m a b c : ℕ) → a ≡ suc p → b ≡ suc j → c ≡ suc m → sets (set l p (get_or line j 0)) a (part_of line b m) ≡ sets l p (part_of line j c)
unfolding part_of
part_step line l p j m a b c ea eb ec = rw (ea, eb, ec)

pub store_first : (old line : List ℕ) (i m p : ℕ) → m ≤ most_atoms → 1 ≤ i → i ≤ most_atoms → p ≡ row_start i → Storing old line i m old p i
store_first old line i m p f l h e = record { left = rw e; few = f; size = refl; first = l; low = omega arith; high = h; here = omega arith }

module _ {old line : List ℕ} {i m : ℕ} {new : List ℕ} {p j : ℕ} (S : Storing old line i m new p j) where
  pub store_place : j < m → all_pairs ≤ length old → p < length new
  store_place l n = omega (arith, along_place i j (row_start i) S.first S.low (omega (arith, S.few)) refl, S.here, S.size)

  pub store_next : j < m → Storing old line i m (set new p (get_or line j 0)) (p + 1) (j + 1)
  store_next l = record {
    left = part_step line new p j (m - (j + 1)) (p + 1) (j + 1) (m - j) (add-one p) (add-one j) (omega arith) ∙ S.left;
    size = length-set new p (get_or line j 0) ∙ S.size;
    few = S.few;
    first = S.first;
    low = omega (arith, S.low);
    high = omega (arith, S.few);
    here = omega (arith, S.here, S.low);
  }

  pub store_last : (n : ℕ) → m ≡ min n most_atoms → m ≤ j → is_outside most_atoms i ≡ false → all_pairs ≤ length old → new ≡ half_with_row old i line n
  unfolding half_with_row part_of
  store_last n e l o r =
      let z : m - j ≡ 0 = omega arith in
      rw (o, le-ltb (length old) all_pairs r, ← e) (rw z at S.left)

pub store_out : (h line : List ℕ) (i n : ℕ) → is_outside most_atoms i ≡ true → h ≡ half_with_row h i line n
unfolding half_with_row
store_out h line i n o = rw o

pub store_short : (h line : List ℕ) (i n : ℕ) → is_outside most_atoms i ≡ false → length h < all_pairs → h ≡ half_with_row h i line n
unfolding half_with_row
store_short h line i n o l = rw (o, lt-ltb (length h) all_pairs l)
