-- Laws. Half of a block's rows reads as the rows do, at any two atoms; and as the distances, where the block is not refused. Assumes nothing.
use Prim.Native.Nat.{ℕ, suc, ◌-◌, ◌≤◌, ◌<◌}
use Rattle.std.specs.Prelude.{Bool, ◌||◌, ◌≡◌, refl, ltb, replicate}
use Rattle.std.proofs.Math.Bool.{true, false, cond}
use mathlib.Core.List.{List, []}
use Rattle.std.proofs.Math.Path.{sym, ap}
use Rattle.std.proofs.Common.{◌∙◌}
use Rattle.std.proofs.Math.Decide.{dec_lt}
use native.Mathlib.Omega.{arith}
use borrow.Author.Tests.{lt-ltb, le-ltb, ne_eqb, eqb-true}
use Rattle.std.proofs.Math.ListN.{length, get_or, length-replicate}
use Rattle.std.proofs.lemmas.List.{get_or-replicate}
use Rattle.std.proofs.Math.Seq.{ext_get_or}
use Rattle.graph.specs.Graph.{Within, distance}
use Rattle.graph.specs.Farthest.{farthest}
use Rattle.graph.specs.Distance.{distance_self, distance_sym}
use Rattle.reply.specs.Read.{Read, refused, read, ◌then◌, refuse_if, is_outside}
use Rattle.half.specs.Half.{all_pairs, above_place, no_pair, half_at, half_row, half_of}
use Rattle.half.specs.Places.{Pair}
use Rattle.half.specs.Reads.{half_ext, length_half, half_reads, Halved, half_is_rows}
use Rattle.block.specs.Block.{most_atoms, graph_of, block_reply}
use Rattle.block.specs.Rows.{table, row_of, no_row, said_row, row_reply, rows_of, far_of, distance_at, half_table, unless_refused, half_after, far_after}
use Rattle.block.specs.Tables.{length-table, get_or-table}
use Rattle.block.specs.Lent.{zeros}
use Rattle.block.specs.Faults.{inside}
use Rattle.block.specs.Told.{within_inside, few_atoms, sound, molecule, row_read, distance_found, distance_at_lem}
use Rattle.reply.specs.declared.Refusal.{Refusal}

or_true : (s : Bool) {t : Bool} → t ≡ true → (s || t) ≡ true
or_true true e = refl
or_true false e = e

no_pair_equal : (i j : ℕ) → no_pair i j ≡ true → is_outside most_atoms i ≡ false → is_outside most_atoms j ≡ false → i ≡ j
unfolding no_pair
no_pair_equal i j e p q = eqb-true i j (rw (p, q) at e)

pair_one : {i j : ℕ} → Pair i j → Within most_atoms i
pair_one p = omega (arith, p.low, p.less, p.high)

pair_two : {i j : ℕ} → Pair i j → Within most_atoms j
pair_two p = omega (arith, p.low, p.less, p.high)

module _ (n : ℕ) (xs : List ℕ) where
  abbrev at : ℕ → ℕ → ℕ
  at i j = distance_at (rows_of n xs) i j

  -- no such atom
  at_outside : (i j : ℕ) → (is_outside most_atoms i || is_outside most_atoms j) ≡ true → at i j ≡ 0
  unfolding distance_at
  at_outside i j e = rw e

  -- what the row of an atom has
  at_said : {i j : ℕ} → Within most_atoms i → Within most_atoms j → at i j ≡ get_or (said_row (row_reply n xs i)).row (j - 1) 0
  unfolding rows_of
  at_said {i} {j} v w =
      let k : suc (i - 1) ≡ i = omega arith in
      let e : get_or (rows_of n xs) (i - 1) [] ≡ (said_row (row_reply n xs i)).row =
      get_or-table most_atoms (λ i. (said_row (row_reply n xs (suc i))).row) (i - 1) [] (omega arith) ∙ ap (λ (x : ℕ). (said_row (row_reply n xs x)).row) k in
      distance_found (rows_of n xs) i j v w ∙ ap (λ (row : List ℕ). get_or row (j - 1) 0) e

  none_at : {j : ℕ} → Within most_atoms j → get_or no_row (j - 1) 0 ≡ 0
  none_at {j} w = get_or-replicate most_atoms (j - 1) 0 0 (omega arith)

  -- a block that is refused
  at-refused : (r : Refusal) → block_reply n xs ≡ refused r → {i j : ℕ} → Within most_atoms i → Within most_atoms j → at i j ≡ 0
  unfolding row_reply
  at-refused r e v w = at_said v w ∙ rw e (none_at w)

  module _ (fine : block_reply n xs ≡ read tt) where
    -- atoms of the block, and atoms beyond them
    pub at-distance : {i j : ℕ} → Within n i → Within n j → at i j ≡ distance (graph_of n xs) i j
    at-distance {i} {j} v w = let m = few_atoms n xs fine in distance_found (rows_of n xs) i j (omega arith) (omega arith) ∙ distance_at_lem n xs fine v w

    pub at_row : {i j : ℕ} → Within n i → Within most_atoms j → at i j ≡ get_or (row_of (graph_of n xs) i) (j - 1) 0
    unfolding row_reply
    at_row {i} {j} v w = let m = few_atoms n xs fine in at_said (omega arith) w ∙ rw (fine, within_inside n i v)

    pub at_beyond : {i j : ℕ} → Within most_atoms i → n < i → Within most_atoms j → at i j ≡ 0
    unfolding row_reply
    at_beyond {i} {j} v l w = at_said v w ∙ rw (fine, ne_eqb i 0 (omega arith), lt-ltb n i l) (none_at w)

    beyond_at : {i j : ℕ} → Within n i → Within most_atoms j → n < j → at i j ≡ 0
    unfolding row_of
    beyond_at {i} {j} v w l =
        at_row v w ∙ get_or-table most_atoms (λ j. cond (ltb j n) (distance (graph_of n xs) i (suc j)) 0) (j - 1) 0 (omega arith) ∙ rw (le-ltb (j - 1) n (omega arith))

  -- two atoms of a block that is not refused; or nothing is said of them
  data Known (i j : ℕ) : Type 0 where
    inner : block_reply n xs ≡ read tt → Within n i → Within n j → Known i j
    nothing : at i j ≡ 0 → at j i ≡ 0 → Known i j

  known : (i j : ℕ) → Known i j
  known i j = go (is_outside most_atoms i) refl (is_outside most_atoms j) refl (block_reply n xs) refl
    where
      atoms : block_reply n xs ≡ read tt → Within most_atoms i → Within most_atoms j → Dec (n < i) → Dec (n < j) → Known i j
      atoms f v w (yes p) (yes q) = nothing (at_beyond f v p w) (at_beyond f w q v)
      atoms f v w (yes p) (no q) = nothing (at_beyond f v p w) (beyond_at f (omega arith) v p)
      atoms f v w (no p) (yes q) = nothing (beyond_at f (omega arith) w q) (at_beyond f w q v)
      atoms f v w (no p) (no q) = inner f (omega arith) (omega arith)

      go : (s : Bool) → is_outside most_atoms i ≡ s → (t : Bool) → is_outside most_atoms j ≡ t → (m : Read (Unit {0})) → block_reply n xs ≡ m → Known i j
      go true e t f m b = nothing (at_outside i j (rw e)) (at_outside j i (or_true (is_outside most_atoms j) e))
      go false e true f m b = nothing (at_outside i j (rw (e, f))) (at_outside j i (rw f))
      go false e false f (refused r) b = let v = inside most_atoms i e in let w = inside most_atoms j f in nothing (at-refused r b v w) (at-refused r b w v)
      go false e false f (read u) b = atoms b (inside most_atoms i e) (inside most_atoms j f) (dec_lt n i) (dec_lt n j)

  halved : Halved (distance_at (rows_of n xs))
  halved = record { either = λ i j. same i j (known i j); zero_none = λ i j e. none i j e (known i j) }
    where
      same : (i j : ℕ) → Known i j → at i j ≡ at j i
      same i j (inner f v w) = at-distance f v w ∙ distance_sym (molecule n xs f) v w ∙ sym (at-distance f w v)
      same i j (nothing p q) = p ∙ sym q

      itself : (i j : ℕ) → no_pair i j ≡ true → Within most_atoms i → Within most_atoms j → i ≡ j
      itself i j e v w = no_pair_equal i j e (within_inside most_atoms i v) (within_inside most_atoms j w)

      none : (i j : ℕ) → no_pair i j ≡ true → Known i j → at i j ≡ 0
      none i j e (nothing p q) = p
      none i j e (inner f v w) =
          let m = few_atoms n xs f in
          let q : i ≡ j = itself i j e (omega arith) (omega arith) in
          at-distance f v w ∙ rw (← q) (distance_self (sound n xs f) v)

  -- THE HALF READS AS THE ROWS, either way round, and at equal atoms too
  pub table_is_rows : (i j : ℕ) → half_at (half_table n xs) i j ≡ distance_at (rows_of n xs) i j
  unfolding half_table
  table_is_rows i j = half_is_rows (distance_at (rows_of n xs)) halved i j

  said_long : (i : ℕ) → length (said_row (row_reply n xs i)).row ≡ most_atoms
  unfolding row_reply row_of
  said_long i = go (block_reply n xs) (is_outside n i)
    where
      go : (m : Read (Unit {0})) (t : Bool) → length (said_row (m then λ _. refuse_if t 18 0 then λ _. read (row_of (graph_of n xs) i, farthest (graph_of n xs) i))).row ≡ most_atoms
      go (refused r) t = length-replicate {A = ℕ} most_atoms 0
      go (read u) true = length-replicate {A = ℕ} most_atoms 0
      go (read u) false = length-table most_atoms (λ j. cond (ltb j n) (distance (graph_of n xs) i (suc j)) 0)

  row_said : {i : ℕ} → Within most_atoms i → half_row (half_table n xs) i ≡ (said_row (row_reply n xs i)).row
  unfolding half_row
  row_said {i} v =
      ext_get_or 0 (table most_atoms half) (said_row (row_reply n xs i)).row (length-table most_atoms half ∙ sym (said_long i))
      (λ j l.
      let m : j < most_atoms = omega (arith, length-table most_atoms half) in
      let k : suc j - 1 ≡ j = omega arith in
      get_or-table most_atoms half j 0 m ∙ table_is_rows i (suc j) ∙ at_said v (omega arith) ∙ ap (λ (x : ℕ). get_or (said_row (row_reply n xs i)).row x 0) k)
    where
      half : ℕ → ℕ
      half j = half_at (half_table n xs) i (suc j)

  -- a refused block has none
  pub table_refused : (r : Refusal) → block_reply n xs ≡ refused r → replicate all_pairs 0 ≡ half_table n xs
  unfolding half_table
  table_refused r e =
      half_ext (replicate all_pairs 0) (half_of (distance_at (rows_of n xs))) (length-replicate {A = ℕ} all_pairs 0) (length_half (distance_at (rows_of n xs)))
      (λ i j p. zeros all_pairs (above_place i j) ∙ sym (half_reads (distance_at (rows_of n xs)) p ∙ at-refused r e (pair_one p) (pair_two p)))

  pub far_refused : (r : Refusal) → block_reply n xs ≡ refused r → no_row ≡ far_of n xs
  unfolding far_of row_reply table
  far_refused r e = rw e

  -- lent all 0, they are the half and what is farthest, whatever is told of the block
  pub half_lent : half_after n xs (replicate all_pairs 0) ≡ half_table n xs
  half_lent = go (block_reply n xs) refl
    where
      go : (m : Read (Unit {0})) → block_reply n xs ≡ m → unless_refused m (replicate all_pairs 0) (half_table n xs) ≡ half_table n xs
      go (refused r) e = table_refused r e
      go (read u) e = refl

  pub far_lent : far_after n xs no_row ≡ far_of n xs
  far_lent = go (block_reply n xs) refl
    where
      go : (m : Read (Unit {0})) → block_reply n xs ≡ m → unless_refused m no_row (far_of n xs) ≡ far_of n xs
      go (refused r) e = far_refused r e
      go (read u) e = refl

  module _ (fine : block_reply n xs ≡ read tt) where
    pub table_distance : {i j : ℕ} → Within n i → Within n j → half_at (half_table n xs) i j ≡ distance (graph_of n xs) i j
    table_distance {i} {j} v w = table_is_rows i j ∙ at-distance fine v w

    pub table_row : {i : ℕ} → Within n i → half_row (half_table n xs) i ≡ row_of (graph_of n xs) i
    table_row {i} v = let m = few_atoms n xs fine in row_said {i = i} (omega arith) ∙ ap (λ (x : Read (List ℕ × ℕ)). (said_row x).row) (row_read n xs fine v)

    -- the rows that are stored one by one
    pub table_end : (h : List ℕ) → length h ≡ all_pairs → ((i j : ℕ) → Pair i j → i ≤ n → get_or h (above_place i j) 0 ≡ get_or (row_of (graph_of n xs) i) (j - 1) 0)
        → ((i j : ℕ) → Pair i j → n < i → get_or h (above_place i j) 0 ≡ 0) → h ≡ half_table n xs
    unfolding half_table
    table_end h l done rest =
        half_ext h (half_of (distance_at (rows_of n xs))) l (length_half (distance_at (rows_of n xs)))
        (λ i j p. at_pair i j p (dec_lt n i) ∙ sym (half_reads (distance_at (rows_of n xs)) p))
      where
        at_pair : (i j : ℕ) → Pair i j → Dec (n < i) → get_or h (above_place i j) 0 ≡ at i j
        at_pair i j p (yes b) = rest i j p b ∙ sym (at_beyond fine (pair_one p) b (pair_two p))
        at_pair i j p (no b) = done i j p (omega arith) ∙ sym (at_row fine {i = i} (omega (arith, p.low)) (pair_two p))
