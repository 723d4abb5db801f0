-- Laws. The terms of a block's bonds by half of its distances, and the lent entries that they fill one by one. Assumes nothing.
use Prim.Native.Nat.{ℕ, zero, suc, ◌+◌, ◌*◌, ◌-◌, ◌/◌, ◌≤◌, ◌<◌}
use mathlib.Core.Bool.{cond}
use mathlib.Core.List.{List}
use mathlib.Core.Path.{◌≡◌, refl, ◌∙◌, ap, ap₂, subst}
use native.Mathlib.Numerals.{add-one}
use native.Mathlib.Omega.{arith}
use lib.Dec.{ltb}
use lib.ListN.{length, get_or, set}
use Rattle.graph.specs.Graph.{bond, Within, distance, sum, sum_bonds}
use Rattle.graph.specs.Distance.{distance_sym}
use Rattle.reply.specs.Read.{read}
use Rattle.block.specs.Block.{most_atoms, graph_of, block_reply}
use Rattle.block.specs.Rows.{row_of, half_table}
use Rattle.block.specs.Told.{molecule, entry_at}
use Rattle.block.specs.Halved.{table_row}
use Rattle.block.specs.Numbered.{bond_at, rest, rest_sum, rest_over, bond_within}
use Rattle.block.specs.Lent.{EntriesFilled, filled_none, filled_store}
use Rattle.szeged.specs.Szeged.{closer, nearer, szeged_term, szeged}
use Rattle.szeged.specs.Work.{smaller, term_by, Product, TermsTask, Done}

module _ (n : ℕ) (xs : List ℕ) (fine : block_reply n xs ≡ read tt) where
  -- what is counted over the rows of two atoms
  smaller_is : {a b : ℕ} → Within n a → Within n b → (k : ℕ) → k ≤ n → smaller k (row_of (graph_of n xs) a) (row_of (graph_of n xs) b) ≡ sum k (closer (graph_of n xs) a b)
  unfolding smaller sum closer
  smaller_is wa wb zero l = refl
  smaller_is wa wb (suc k) l =
      ap₂ ◌+◌ (smaller_is wa wb k (omega arith)) (ap₂ (λ (x y : ℕ). cond (ltb x y) 1 0) (at wa) (at wb))
    where
      at : {c : ℕ} → Within n c → get_or (row_of (graph_of n xs) c) k 0 ≡ distance (graph_of n xs) (suc k) c
      at {c} w =
          let e : k ≡ suc k - 1 = omega arith in
          let v : Within n (suc k) = omega arith in
          ap (λ (j : ℕ). get_or (row_of (graph_of n xs) c) j 0) e ∙ entry_at n xs fine c v ∙ distance_sym (molecule n xs fine) w v

  term_is : {a b : ℕ} → Within n a → Within n b → term_by n (half_table n xs) a b ≡ szeged_term (graph_of n xs) (bond a b)
  unfolding szeged_term nearer
  term_is wa wb = rw (table_row n xs fine wa, table_row n xs fine wb, smaller_is wa wb n (omega arith), smaller_is wb wa n (omega arith))

-- the first k entries are put and added up
pub record Filling (n : ℕ) (xs old new : List ℕ) (total k : ℕ) : Type 0 where
  pub done : k ≤ length xs / 2
  pub entries : EntriesFilled k (λ j. szeged_term (graph_of n xs) (bond_at xs j)) old new
  pub left : total + sum_bonds (rest xs k) (szeged_term (graph_of n xs)) ≡ szeged (graph_of n xs)
  pub low : total ≤ k * (most_atoms * most_atoms)

module _ (n : ℕ) (xs old : List ℕ) where
  pub filling_none : Filling n xs old old 0 0
  filling_none = record { done = omega arith; entries = filled_none; left = omega arith; low = omega arith }

  pub filling_next : {half new : List ℕ} {total k t : ℕ} → TermsTask n xs half old → Filling n xs old new total k → k < length xs / 2
      → Product n half (get_or xs (2 * k) 0) (get_or xs (2 * k + 1) 0) t → Filling n xs old (set new k t) (total + t) (k + 1)
  filling_next {half} {new} {total} {k} {t} T F l P =
      let w = bond_within n xs T.fine k l in
      let e : t ≡ szeged_term (graph_of n xs) (bond_at xs k) = P.is ∙ rw T.far (term_is n xs T.fine w.0 w.1) in
      record {
        done = omega arith;
        entries = filled_store F.entries (omega (arith, F.entries.same, T.room)) t e;
        left = rw (add-one k) (omega (arith, F.left, rest_sum (szeged_term (graph_of n xs)) xs k l));
        low = omega (arith, P.most, F.low);
      }

  pub filling_done : {new : List ℕ} {total k : ℕ} → Filling n xs old new total k → k ≡ length xs / 2 → Done n xs old new total
  filling_done {new} {total} {k} F e = record {
    is = omega (arith, F.left, rest_over (szeged_term (graph_of n xs)) xs k (omega arith));
    entries = subst (λ (j : ℕ). EntriesFilled j (λ i. szeged_term (graph_of n xs) (bond_at xs i)) old new) e F.entries;
  }
