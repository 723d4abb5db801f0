-- Laws. THE WALK: steps from position 0, each at the position that was handed back, give the sheet of every product once, in order, and then done; a run writes
-- the steps' bytes one after the other. (That each choice has one position: `each_choice_once`, products.) Assumes nothing.
use Prim.Native.Nat.{ℕ, zero, suc, ◌+◌, ◌*◌, ◌-◌, ◌≤◌, ◌<◌}
use Rattle.std.specs.Prelude.{Bool, true, false, ◌⊎◌, ◌≡◌, ltb, length, take, Ok, None}
use mathlib.Core.List.{List, ◌++◌, append_assoc}
use Rattle.std.proofs.Common.{inl, inr, ⊎_elim, ◌∙◌, le-ltb, ltb-true, ltb-false, length-append, take_at, drop_at}
use Rattle.std.proofs.Math.Path.{refl, sym, ap, ap₂}
use native.Mathlib.Omega.{arith}
use Rattle.std.proofs.Math.ListN.{drop, length-drop}
use Rattle.std.proofs.Math.Seq.{drop-drop}
use Rattle.reply.specs.Read.{Read, refused, read, refusal}
use Rattle.records.specs.declared.Sheet.{Sheet}
use Rattle.records.specs.declared.Sheet.TheVariants.{Five, Six}
use Rattle.block.specs.declared.Indices.{Indices}
use Rattle.deck.specs.Deck.{longest_deck}
use Rattle.sheets.specs.Sheets.{fields_of, sheet_record, sheet_bytes, sheet_put}
use Rattle.sheets.specs.Back.{length_sheet}
use Rattle.catalogue.specs.Library.{Library, library_reply}
use Rattle.catalogue.specs.Products.{Product, done, made, products, product_at}
use Rattle.library.specs.Steps.{Ran, behind, after_step, step_reply, step_out, steps_from, run_of}
use Rattle.library.specs.Running.{step_long, step_short, run_stops, made_step, done_step, run_next, run_done, run_full}
use Rattle.written_out.specs.Walk.{sheet_before, walk_from, in_order, one_by_one}

-- a sheet has bytes
some : (s : Sheet) → 1 ≤ sheet_bytes s
some Five = omega arith
some Six = omega arith

few : (s : Sheet) (m : ℕ) → m ≤ m * sheet_bytes s
few Five m = omega arith
few Six m = omega arith

-- one after the other
behind_both : (a b : List ℕ) (r : Ran) → behind a (behind b r) ≡ behind (a ++ b) r
behind_both a b r = λ i. record { next = r.next; out = sym (append_assoc a b r.out) i }

-- what a step that makes a product leaves: the record, and the rest of the buffer as it was
step_leaves : (s : Sheet) (out : List ℕ) (x : Indices) → sheet_bytes s ≤ length out → step_out s out (read (made x)) ≡ sheet_record s (fields_of s x) ++ drop (sheet_bytes s) out
unfolding sheet_put
step_leaves s out x h = rw (le-ltb (length out) (sheet_bytes s) h)

module _ (s : Sheet) (out : List ℕ) (x : Indices) (h : sheet_bytes s ≤ length out) where
  pub step_begins : take (sheet_bytes s) (step_out s out (read (made x))) ≡ sheet_record s (fields_of s x)
  step_begins = ap (take (sheet_bytes s)) (step_leaves s out x h) ∙ take_at (sheet_record s (fields_of s x)) (drop (sheet_bytes s) out) (sheet_bytes s) (length_sheet s x)

  pub step_rest : drop (sheet_bytes s) (step_out s out (read (made x))) ≡ drop (sheet_bytes s) out
  step_rest = ap (drop (sheet_bytes s)) (step_leaves s out x h) ∙ drop_at (sheet_record s (fields_of s x)) (drop (sheet_bytes s) out) (sheet_bytes s) (length_sheet s x)

  step_length : length (step_out s out (read (made x))) ≡ length out
  step_length =
      ap length (step_leaves s out x h)
      ∙ length-append (sheet_record s (fields_of s x)) (drop (sheet_bytes s) out)
      ∙ omega (arith, length_sheet s x, length-drop (sheet_bytes s) out)

module _ (s : Sheet) (d : List ℕ) (l : Library) (e : library_reply d ≡ read l) where
  -- STEPS FROM A POSITION ON give the sheets of all products from there on, and then done
  walk_from_lem : (k position : ℕ) (out : List ℕ) → position + k ≡ products l.sites → sheet_bytes s ≤ length out
      → walk_from (suc k) s d position out ≡ record { sheets = in_order s d l k position; last = Ok None }
  unfolding walk_from in_order
  walk_from_lem zero position out n h = rw (done_step s d l e position (length out) (omega arith) h)
  walk_from_lem (suc k) position out n h =
      let x = product_at d l position in
      let more = walk_from_lem k (suc position) (step_out s out (read (made x))) (omega arith) (omega (arith, step_length s out x h)) in
      rw (made_step s d l e position (length out) (omega arith) h) (ap₂ sheet_before (step_begins s out x h) more)

  -- EVERY PRODUCT ONCE, IN ORDER, AND THEN DONE
  pub whole_walk : (out : List ℕ) → sheet_bytes s ≤ length out
      → walk_from (suc (products l.sites)) s d 0 out ≡ record { sheets = in_order s d l (products l.sites) 0; last = Ok None }
  whole_walk out h = walk_from_lem (products l.sites) 0 out (omega arith) h

  -- A RUN IS ITS STEPS: the first step's bytes, then a run from the position that it hands back into what it left
  pub run_steps : (k position : ℕ) (out : List ℕ) → position < products l.sites → sheet_bytes s ≤ length out → let w = step_out s out (step_reply s d position (length out)) in
      steps_from (suc k) s d position out ≡ behind (take (sheet_bytes s) w) (steps_from k s d (suc position) (drop (sheet_bytes s) w))
  run_steps k position out p h =
      let x = product_at d l position in
      rw (made_step s d l e position (length out) p h)
      (run_next s d l e k position out p h ∙ ap₂ (λ (b c : List ℕ). behind b (steps_from k s d (suc position) c)) (sym (step_begins s out x h)) (sym (step_rest s out x h)))

  -- so many sheets, while there are products and room, and then what comes of the rest
  runs : (m fuel position : ℕ) (out : List ℕ) → position + m ≤ products l.sites → m * sheet_bytes s ≤ length out
      → steps_from (m + fuel) s d position out ≡ behind (one_by_one (in_order s d l m position)) (steps_from fuel s d (position + m) (drop (m * sheet_bytes s) out))
  unfolding in_order one_by_one
  runs zero fuel position out p h =
      let z : position + 0 ≡ position = omega arith in
      let f : 0 + fuel ≡ fuel = omega arith in
      let n : 0 * sheet_bytes s ≡ 0 = omega arith in
      rw (f, n) (ap (λ (j : ℕ). steps_from fuel s d j out) (sym z))
  runs (suc m) fuel position out p h =
      let b = sheet_bytes s in
      let x = product_at d l position in
      let f : suc m + fuel ≡ suc (m + fuel) = omega arith in
      let z : suc position + m ≡ position + suc m = omega arith in
      let n : suc m * b ≡ b + m * b = omega arith in
      let rest : drop (m * b) (drop b out) ≡ drop (suc m * b) out = drop-drop (m * b) b out ∙ ap (λ (j : ℕ). drop j out) (sym n) in
      let more = runs m fuel (suc position) (drop b out) (omega arith) (omega (arith, length-drop b out, n)) in
      ap (λ (j : ℕ). steps_from j s d position out) f
      ∙ run_next s d l e (m + fuel) position out (omega arith) (omega (arith, n))
      ∙ ap (behind (sheet_record s (fields_of s x))) (more ∙ ap₂ (λ (j : ℕ) (r : List ℕ). behind (one_by_one (in_order s d l m (suc position))) (steps_from fuel s d j r)) z rest)
      ∙ behind_both (sheet_record s (fields_of s x)) (one_by_one (in_order s d l m (suc position))) (steps_from fuel s d (position + suc m) (drop (suc m * b) out))

  -- a run ends where no product is left, or no room
  ends : (fuel position : ℕ) (out : List ℕ) → (products l.sites ≤ position) ⊎ (length out < sheet_bytes s) → steps_from fuel s d position out ≡ record { next = position; out = out }
  ends fuel position out (inl p) = go (ltb (length out) (sheet_bytes s)) refl
    where
      go : (t : Bool) → ltb (length out) (sheet_bytes s) ≡ t → steps_from fuel s d position out ≡ record { next = position; out = out }
      go true b = run_full s d l e fuel position out (ltb-true (length out) (sheet_bytes s) b)
      go false b = run_done s d l e fuel position out p (ltb-false (length out) (sheet_bytes s) b)
  ends fuel position out (inr r) = run_full s d l e fuel position out r

  -- THE BYTES OF A RUN from any position into any room: the sheets of the products from there on, one after the other, as many as there are and as there is room
  -- for; what is left of the buffer stays; the position behind them is handed back
  pub run_bytes : (m position : ℕ) (out : List ℕ) → position + m ≤ products l.sites → m * sheet_bytes s ≤ length out
      → (products l.sites ≤ position + m) ⊎ (length out < sheet_bytes s + m * sheet_bytes s)
      → run_of s d position out ≡ record { next = position + m; out = one_by_one (in_order s d l m position) ++ drop (m * sheet_bytes s) out }
  run_bytes m position out p h last =
      let rest = drop (m * sheet_bytes s) out in
      let f : length out ≡ m + (length out - m) = omega (arith, few s m) in
      let stop : (products l.sites ≤ position + m) ⊎ (length rest < sheet_bytes s) = ⊎_elim inl (λ r. inr (omega (arith, length-drop (m * sheet_bytes s) out))) last in
      ap (λ (j : ℕ). steps_from j s d position out) f
      ∙ runs m (length out - m) position out p h
      ∙ ap (behind (one_by_one (in_order s d l m position))) (ends (length out - m) (position + m) rest stop)

  -- ALL PRODUCTS IN ONE RUN where there is room: the bytes of the whole walk's sheets, and the number of products
  pub whole_run : (out : List ℕ) → products l.sites * sheet_bytes s ≤ length out
      → run_of s d 0 out ≡ record { next = products l.sites; out = one_by_one (in_order s d l (products l.sites) 0) ++ drop (products l.sites * sheet_bytes s) out }
  whole_run out h =
      let n = products l.sites in
      let z : 0 + n ≡ n = omega arith in
      run_bytes n 0 out (omega arith) h (inl (omega arith)) ∙ ap (λ (j : ℕ). record { next = j; out = one_by_one (in_order s d l n 0) ++ drop (n * sheet_bytes s) out }) z

-- THE FUEL LASTS: a run of at most as many steps as the buffer has bytes is a run of as many as one likes
module _ (s : Sheet) (d : List ℕ) where
  no_room : (k position : ℕ) (out : List ℕ) → length out ≡ 0 → steps_from k s d position out ≡ record { next = position; out = out }
  no_room k position out z = go (ltb longest_deck (length d)) refl
    where
      go : (t : Bool) → ltb longest_deck (length d) ≡ t → steps_from k s d position out ≡ record { next = position; out = out }
      go true b = run_stops s d position out k (refusal 20 0) (step_long s d position (length out) (ltb-true longest_deck (length d) b))
      go false b = run_stops s d position out k (refusal 9 0) (step_short s d position (length out) (ltb-false longest_deck (length d) b) (omega (arith, some s)))

  steps_same : (k j position : ℕ) (out : List ℕ) → length out ≤ k → length out ≤ j → steps_from k s d position out ≡ steps_from j s d position out
  unfolding steps_from
  steps_same zero zero position out a b = refl
  steps_same zero (suc j) position out a b = sym (no_room (suc j) position out (omega arith))
  steps_same (suc k) zero position out a b = no_room (suc k) position out (omega arith)
  steps_same (suc k) (suc j) position out a b =
      let rest = drop (sheet_bytes s) out in
      go (step_reply s d position (length out)) (steps_same k j (suc position) rest (omega (arith, length-drop (sheet_bytes s) out, some s)) (omega (arith, length-drop (sheet_bytes s) out, some s)))
    where
      go : (r : Read Product) → steps_from k s d (suc position) (drop (sheet_bytes s) out) ≡ steps_from j s d (suc position) (drop (sheet_bytes s) out)
          → after_step s position out r (steps_from k s d) ≡ after_step s position out r (steps_from j s d)
      go (refused r) more = refl
      go (read done) more = refl
      go (read (made x)) more = ap (behind (sheet_record s (fields_of s x))) more

  pub fuel_lasts : (k position : ℕ) (out : List ℕ) → length out ≤ k → steps_from k s d position out ≡ run_of s d position out
  fuel_lasts k position out h = steps_same k (length out) position out h (omega arith)
