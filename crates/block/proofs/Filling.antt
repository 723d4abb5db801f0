-- The rows are stored one by one in half a table. Assumes nothing.
use Prim.Native.Nat.{ℕ, suc, ◌-◌, ◌≤◌, ◌<◌}
use mathlib.Core.Bool.{true, cond}
use mathlib.Core.List.{List}
use mathlib.Core.Path.{◌≡◌, sym, ap, subst⁻¹, ◌∙◌}
use native.Mathlib.Omega.{arith}
use native.Mathlib.Decide.{ℕ_discrete, dec_lt}
use lib.Dec.{ltb}
use lib.ListN.{length, get_or, set, length-set, replicate, length-replicate, get_or-replicate}
use lib.Seq.{get_or-set_same, get_or-set_other, ext_get_or}
use borrow.Author.Tests.{lt-ltb, le-ltb, ne_eqb}
use Rattle.graph.specs.Graph.{Within, distance}
use Rattle.graph.specs.Farthest.{farthest}
use Rattle.reply.specs.Read.{refused, read, refusal, is_outside}
use Rattle.half.specs.Half.{all_pairs, above_place, half_with_row}
use Rattle.half.specs.Places.{Pair}
use Rattle.half.specs.Rows.{row_size, row_same, row_past, row_other}
use Rattle.block.specs.Block.{most_atoms, graph_of, block_reply}
use Rattle.block.specs.Rows.{table, row_of, no_row, said_row, row_reply, far_of, half_table, unless_refused}
use Rattle.block.specs.Tables.{length-table, get_or-table}
use Rattle.block.specs.Told.{row_read}
use Rattle.block.specs.Halved.{table_end}
use Rattle.block.specs.Lent.{zeros}
use Rattle.reply.specs.declared.Refusal.{Refusal}
use Rattle.block.specs.declared.OneRow.{OneRow}
use Rattle.std.specs.Prelude.{Ok, Err}

-- of a table the first i entries are F's, and the others are none
pub record Filled {A : Type 0} (F : ℕ → A) (none d : A) (all : List A) (i : ℕ) : Type 0 where
  pub size : length all ≡ most_atoms
  pub done : (k : ℕ) → k < i → get_or all k d ≡ F k
  pub rest : (k : ℕ) → i ≤ k → k < most_atoms → get_or all k d ≡ none

module _ {A : Type 0} {F : ℕ → A} {none d : A} where
  pub fill_start : Filled F none d (replicate most_atoms none) 0
  fill_start = record {
    size = length-replicate most_atoms none;
    done = λ k l. absurd (omega arith);
    rest = λ k l h. get_or-replicate most_atoms k none d h;
  }

  pub fill_next : (all : List A) (i : ℕ) (x : A) → i < most_atoms → Filled F none d all i → x ≡ F i → Filled F none d (set all i x) (suc i)
  fill_next all i x l P e = record {
    size = length-set all i x ∙ P.size;
    done = λ k h. elim (ℕ_discrete k i) [
      | yes q ↦ subst⁻¹ (λ (y : ℕ). get_or (set all i x) y d ≡ F y) q (get_or-set_same all i x d (omega (arith, P.size)) ∙ e)
      | no q ↦ get_or-set_other all i k x d q ∙ P.done k (omega arith)
    ];
    rest = λ k h m. get_or-set_other all i k x d (omega arith) ∙ P.rest k (omega arith) m;
  }

  pub fill_end : (T : ℕ → A) (n : ℕ) → ((k : ℕ) → k < n → F k ≡ T k) → ((k : ℕ) → n ≤ k → k < most_atoms → none ≡ T k) → (all : List A) → Filled F none d all n → all ≡ table most_atoms T
  fill_end T n first behind all P =
      ext_get_or d all (table most_atoms T) (P.size ∙ sym (length-table most_atoms T))
      (λ i l. let m : i < most_atoms = omega (arith, P.size) in at i m (dec_lt i n) ∙ sym (get_or-table most_atoms T i d m))
    where
      at : (i : ℕ) → i < most_atoms → Dec (i < n) → get_or all i d ≡ T i
      at i l (yes h) = P.done i h ∙ first i h
      at i l (no h) = P.rest i (omega arith) l ∙ behind i (omega arith) l

module _ (n : ℕ) (xs : List ℕ) where
  -- the rows of the first i atoms are stored, and the largest of each
  pub record Rows (h far : List ℕ) (i : ℕ) : Type 0 where
    pub size : length h ≡ all_pairs
    pub done : (k l : ℕ) → Pair k l → k ≤ i → get_or h (above_place k l) 0 ≡ get_or (row_of (graph_of n xs) k) (l - 1) 0
    pub rest : (k l : ℕ) → Pair k l → i < k → get_or h (above_place k l) 0 ≡ 0
    pub largest : Filled (λ k. farthest (graph_of n xs) (suc k)) 0 0 far i

  pub rows_start : Rows (replicate all_pairs 0) no_row 0
  rows_start = record {
    size = length-replicate {A = ℕ} all_pairs 0;
    done = λ k l p m. absurd (omega (arith, p.low));
    rest = λ k l p m. zeros all_pairs (above_place k l);
    largest = fill_start;
  }

  -- a row has nothing behind the atoms
  past_row : (a j : ℕ) → n < j → j ≤ most_atoms → get_or (row_of (graph_of n xs) a) (j - 1) 0 ≡ 0
  unfolding row_of
  past_row a j q m = get_or-table most_atoms (λ k. cond (ltb k n) (distance (graph_of n xs) a (suc k)) 0) (j - 1) 0 (omega arith) ∙ rw (le-ltb (j - 1) n (omega arith))

  pub rows_next : (h far : List ℕ) (i : ℕ) (row : List ℕ) (d : ℕ) → i < most_atoms → Rows h far i
      → row ≡ row_of (graph_of n xs) (suc i) → d ≡ farthest (graph_of n xs) (suc i) → Rows (half_with_row h (suc i) row n) (set far i d) (suc i)
  rows_next h far i row d l P e f = record {
    size = row_size h (suc i) row n (omega arith) l P.size;
    done = λ k j p m. elim (ℕ_discrete k (suc i)) [
      | yes q ↦ subst⁻¹ (λ (x : ℕ). Pair x j → get_or (half_with_row h (suc i) row n) (above_place x j) 0 ≡ get_or (row_of (graph_of n xs) x) (j - 1) 0) q (λ p. own j p) p
      | no q ↦ row_other h (suc i) row n (omega arith) l P.size k j p q ∙ P.done k j p (omega arith)
    ];
    rest = λ k j p m. row_other h (suc i) row n (omega arith) l P.size k j p (λ q. omega arith) ∙ P.rest k j p (omega arith);
    largest = fill_next far i d l P.largest f;
  }
    where
      own : (j : ℕ) → Pair (suc i) j → get_or (half_with_row h (suc i) row n) (above_place (suc i) j) 0 ≡ get_or (row_of (graph_of n xs) (suc i)) (j - 1) 0
      own j p = elim (dec_lt n j) [
        | yes q ↦ row_past h (suc i) row n (omega arith) l P.size j p q ∙ P.rest (suc i) j p (omega arith) ∙ sym (past_row (suc i) j q p.high)
        | no q ↦ row_same h (suc i) row n (omega arith) l P.size j p (omega arith) ∙ ap (λ (x : List ℕ). get_or x (j - 1) 0) e
      ]

  module _ (fine : block_reply n xs ≡ read tt) where
    within : (k : ℕ) → k < n → (said_row (row_reply n xs (suc k))).largest ≡ farthest (graph_of n xs) (suc k)
    within k h = rw (row_read n xs fine {a = suc k} (omega arith))

    beyond : (k : ℕ) → n ≤ k → ◌≡◌ {A = ℕ} (said_row (row_reply n xs (suc k))).largest 0
    unfolding row_reply
    beyond k l = rw (fine, ne_eqb (suc k) 0 (omega arith), lt-ltb n (suc k) (omega arith))

    pub rows_end : (h far : List ℕ) → Rows h far n → (h ≡ half_table n xs) × (far ≡ far_of n xs)
    unfolding far_of
    rows_end h far P = (
      table_end n xs fine h P.size P.done P.rest,
      fill_end (λ k. (said_row (row_reply n xs (suc k))).largest) n (λ k l. sym (within k l)) (λ k l m. sym (beyond k l)) far P.largest,
    )

  -- what is lent after a block that is refused, and after one that is not
  pub kept : (r : Refusal) → block_reply n xs ≡ refused r → (old new : List ℕ) → old ≡ unless_refused (block_reply n xs) old new
  kept r e old new = rw e

  pub stored : block_reply n xs ≡ read tt → (old new now : List ℕ) → now ≡ new → now ≡ unless_refused (block_reply n xs) old new
  stored e old new now p = rw e p

  module _ (i : ℕ) (v : OneRow) where
    pub row-refused : (r : Refusal) → block_reply n xs ≡ refused r → v.reply ≡ Err r → v.row ≡ no_row → v.largest ≡ 0 → v ≡ said_row (row_reply n xs i)
    unfolding row_reply
    row-refused r b p q l = rw b (λ j. record { reply = p j; row = q j; largest = l j })

    module _ (fine : block_reply n xs ≡ read tt) where
      pub row_outside : is_outside n i ≡ true → v.reply ≡ Err (refusal 18 0) → v.row ≡ no_row → v.largest ≡ 0 → v ≡ said_row (row_reply n xs i)
      unfolding row_reply
      row_outside o p q l = rw (fine, o) (λ j. record { reply = p j; row = q j; largest = l j })

      pub row_fine : Within n i → v.reply ≡ Ok tt → v.row ≡ row_of (graph_of n xs) i → v.largest ≡ farthest (graph_of n xs) i → v ≡ said_row (row_reply n xs i)
      row_fine w p q l = rw (row_read n xs fine w) (λ j. record { reply = p j; row = q j; largest = l j })
