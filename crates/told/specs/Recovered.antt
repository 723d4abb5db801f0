-- Laws. What the one number of a C reply tells, with nothing assumed: it is 0 exactly where the library refuses nothing (for a judged deck: where it accepts),
-- and else says which refusal it is, of 1 to 253, with its place, or which field differs.
use Rattle.std.specs.Prelude.{ℕ, zero, suc, ◌+◌, ◌*◌, ◌/◌, ◌%◌, ◌≤◌, ◌<◌, Bool, true, false, ◌||◌, not, cond, List, [], ◌∷◌, ◌≡◌, refl, eqb, ltb, Float, length}
use Rattle.std.proofs.Common.{ap, arith, mod-eq_of_lt}
use Rattle.reply.specs.Read.{Read, refused, read, ◌then◌, refuse_if, is_outside}
use Rattle.reply.specs.declared.Refusal.{Refusal}
use Rattle.graph.specs.Paths.{denominator}
use Rattle.block.specs.Block.{most_bytes, bonds_of, graph_of, block_reply}
use Rattle.graph.specs.Farthest.{farthest}
use Rattle.block.specs.Rows.{row_of, row_reply}
use Rattle.block.specs.Index.{indices_of, indices_reply, vertex_of, vertex_reply}
use Rattle.szeged.specs.Reply.{szeged_reply}
use Rattle.balaban.specs.Balaban.{balaban_reply}
use Rattle.molwriter.specs.Written as molwriter
use Rattle.shares.specs.Reply.{most_denominator, shares_reply}
use Rattle.poly.specs.Poly.{unusable, polynomial_at, polynomial_reply}
use Rattle.sets.specs.Reply.{tree_reply, sets_reply}
use Rattle.block.specs.declared.Indices.{Indices}
use Rattle.records.specs.Records.{sheet_at}
use Rattle.records.specs.declared.Sheet.{Sheet}
use Rattle.records.specs.declared.Sheet.TheVariants.{Five, Six}
use Rattle.deck.specs.Deck.{longest_deck, Deck, deck_reply}
use Rattle.deck.specs.Molecule.{molecule_of}
use Rattle.deck.specs.declared.Form.{Form}
use Rattle.deck.specs.declared.Form.TheVariants.{Composed, Judged}
use Rattle.sheets.specs.Sheets.{all_fields, fields_of, sheet_of, claimed_at, sheet_bytes, first_wrong}
use Rattle.compose.specs.Fields.{fields_reply}
use Rattle.deck.specs.Placed.{is_missing, placed_distance_reply}
use Rattle.judging.specs.Judging.{judge_reply, said_verdict, sheet_write_reply}
use Rattle.calls.specs.Convention.{most_place, code, coded, fitting}
use Rattle.text_calls.specs.Molfiles.{written_reply}
use Rattle.calls.specs.Beside.{with_room}
use Rattle.block_calls.specs.Replies.{indices_list, sums_of, vertex_list, farthest_list, values_list, polynomial_list, balaban_list, sets_numbers, sets_list, beside_reply, contributions_reply}
use Rattle.deck_calls.specs.Replies.{verdict_code, composed_list, placed_list}
use Rattle.told.specs.Bounded.{most_number, SmallRefusal, Bounded, then_bounded, if_bounded, wider, block_bounded, deck_bounded}

-- the two parts of a number that is put together so
parts : (low high : ℕ) → low < 256 → ((low + 256 * high) % 256 ≡ low) × ((low + 256 * high) / 256 ≡ high)
parts low high l = (omega arith, omega arith)

code_parts : (r : Refusal) → SmallRefusal most_place r → (code r % 256 ≡ r.number) × (code r / 256 ≡ r.place)
code_parts r s = rw (mod-eq_of_lt {n = r.place} s.place, mod-eq_of_lt {n = r.number} {m = 256} (omega (arith, s.high))) (parts r.number r.place (omega (arith, s.high)))

same_refusal : {A : Type 0} (r s : Refusal) → ◌≡◌ {A = Read A} (refused r) (refused s) → r ≡ s
same_refusal r s e = cc

never : {A : Type 0} {r : Refusal} {a : A} → read a ≡ refused r → ⊥
never e = let z : ◌≡◌ {A = ℕ} 0 1 = cc in omega arith

-- what a number n tells of a refusal
pub record Says (n : ℕ) (r : Refusal) : Type 0 where
  pub low : 1 ≤ r.number
  pub high : r.number ≤ most_number
  pub number : n % 256 ≡ r.number
  pub place : n / 256 ≡ r.place

says : (r q : Refusal) → r ≡ q → SmallRefusal most_place r → Says (code r) q
says r q e s = rw (← e) (record { low = s.low; high = s.high; number = (code_parts r s).0; place = (code_parts r s).1 })

not_zero : (r : Refusal) → SmallRefusal most_place r → code r ≡ 0 → ⊥
not_zero r s e = omega (arith, s.low, (code_parts r s).0, ap (λ (n : ℕ). n % 256) e)

-- THE LAW for a function that replies `coded x`
pub record Tells {A : Type 0} (x : Read A) : Type 0 where
  pub fine : coded x ≡ 0 → (a : A) × (x ≡ read a)
  pub refusal : (r : Refusal) → x ≡ refused r → Says (coded x) r

pub tells : {A : Type 0} (x : Read A) → Bounded most_place x → Tells x
tells (refused r) s = record { fine = λ e. absurd (not_zero r s e); refusal = λ q e. says r q (same_refusal r q e) s }
tells (read a) s = record { fine = λ e. (a, refl); refusal = λ q e. absurd (never e) }

-- THE LAW with no bound on places: of the place as much is told as 56 bits hold
pub record TellsText {A : Type 0} (x : Read A) : Type 0 where
  pub fine : coded x ≡ 0 → (a : A) × (x ≡ read a)
  pub number : (r : Refusal) → x ≡ refused r → (coded x % 256 ≡ r.number) × (1 ≤ r.number) × (r.number ≤ most_number)
  pub place : (r : Refusal) → x ≡ refused r → coded x / 256 ≡ r.place % most_place

code_low : (r : Refusal) → r.number ≤ most_number → (code r % 256 ≡ r.number) × (code r / 256 ≡ r.place % most_place)
code_low r h = rw (mod-eq_of_lt {n = r.number} {m = 256} (omega arith)) (parts r.number (r.place % most_place) (omega arith))

tells_text : {A : Type 0} (c : ℕ) (x : Read A) → Bounded c x → TellsText x
tells_text c (refused r) s =
    let p = code_low r s.high in
    record {
      fine = λ e. absurd (omega (arith, s.low, p.0, ap (λ (n : ℕ). n % 256) e));
      number = λ q e. let f = same_refusal r q e in rw (← f) (p.0, s.low, s.high);
      place = λ q e. let f = same_refusal r q e in rw (← f) p.1;
    }
tells_text c (read a) s = record { fine = λ e. (a, refl); number = λ q e. absurd (never e); place = λ q e. absurd (never e) }

-- and for the judge
pub record Judges (x : Read ℕ) : Type 0 where
  pub accepted : verdict_code (said_verdict x) ≡ 0 → x ≡ read 0
  pub differs : (k : ℕ) → x ≡ read (suc k) → (verdict_code (said_verdict x) % 256 ≡ 255) × (verdict_code (said_verdict x) / 256 ≡ suc k)
  pub refusal : (r : Refusal) → x ≡ refused r → Says (verdict_code (said_verdict x)) r

pub judges : (x : Read ℕ) → Bounded most_place x → ((k : ℕ) → x ≡ read k → k < most_place) → Judges x
judges (refused r) s h = record {
  accepted = λ e. absurd (not_zero r s e);
  differs = λ k e. absurd (let z : ◌≡◌ {A = ℕ} 0 1 = cc in omega arith);
  refusal = λ q e. says r q (same_refusal r q e) s;
}
judges (read zero) s h = record {
  accepted = λ e. refl;
  differs = λ k e. absurd (let z : ◌≡◌ {A = ℕ} 0 (suc k) = cc in omega arith);
  refusal = λ q e. absurd (never e);
}
judges (read (suc n)) s h =
    let p = parts 255 (suc n % most_place) (omega arith) in
    let l : suc n % most_place ≡ suc n = mod-eq_of_lt {n = suc n} (h (suc n) refl) in
    record {
      accepted = λ e. absurd (omega (arith, p.0, ap (λ (m : ℕ). m % 256) e));
      differs = λ k e. let q : suc n ≡ suc k = cc in (p.0, omega (arith, p.1, l, q));
      refusal = λ q e. absurd (never e);
    }

-- What each function's answer can be refused for.
pub block_here : (n : ℕ) (xs : List ℕ) → Bounded most_place (block_reply n xs)
block_here n xs = wider (suc most_bytes) most_place (block_reply n xs) (omega arith) (block_bounded n xs)

indices_bounded : (n : ℕ) (xs : List ℕ) → Bounded most_place (indices_reply n xs)
unfolding indices_reply
indices_bounded n xs = then_bounded most_place (block_reply n xs) (λ _. read (indices_of (graph_of n xs))) (block_here n xs) (λ u e. tt)

row_bounded : (n : ℕ) (xs : List ℕ) (a : ℕ) → Bounded most_place (row_reply n xs a)
unfolding row_reply
row_bounded n xs a =
    then_bounded most_place (block_reply n xs) (λ _. refuse_if (is_outside n a) 18 0 then λ _. read (row_of (graph_of n xs) a, farthest (graph_of n xs) a)) (block_here n xs) (λ u e.
    then_bounded most_place (refuse_if (is_outside n a) 18 0) (λ _. read (row_of (graph_of n xs) a, farthest (graph_of n xs) a)) (if_bounded most_place (is_outside n a) 18 0 (omega arith)) (λ v f. tt))

vertex_bounded : (n : ℕ) (xs : List ℕ) (a : ℕ) → Bounded most_place (vertex_reply n xs a)
unfolding vertex_reply
vertex_bounded n xs a =
    then_bounded most_place (block_reply n xs) _ (block_here n xs) (λ u e.
    then_bounded most_place (refuse_if (is_outside n a) 18 0) (λ _. read (vertex_of (graph_of n xs) a)) (if_bounded most_place (is_outside n a) 18 0 (omega arith)) (λ v f. tt))

polynomial_bounded : (n : ℕ) (xs : List ℕ) (x : Float) → Bounded most_place (polynomial_reply n xs x)
unfolding polynomial_reply polynomial_at
polynomial_bounded n xs x =
    then_bounded most_place (block_reply n xs) _ (block_here n xs) (λ u e.
    then_bounded most_place (refuse_if (unusable x) 10 0) _ (if_bounded most_place (unusable x) 10 0 (omega arith)) (λ v f. tt))

sets_bounded : (n : ℕ) (xs : List ℕ) → Bounded most_place (sets_reply n xs)
unfolding sets_reply tree_reply
sets_bounded n xs =
    then_bounded most_place (block_reply n xs) _ (block_here n xs) (λ u e.
    then_bounded most_place (refuse_if (not (eqb (suc (length (bonds_of xs))) n)) 34 0) _ (if_bounded most_place (not (eqb (suc (length (bonds_of xs))) n)) 34 0 (omega arith)) (λ v f. tt))

shares_bounded : (n : ℕ) (xs : List ℕ) (room : ℕ) → Bounded most_place (shares_reply n xs room)
unfolding shares_reply
shares_bounded n xs room =
    then_bounded most_place (block_reply n xs) _ (block_here n xs) (λ u e.
    then_bounded most_place (refuse_if (ltb room (length (bonds_of xs))) 9 0) _ (if_bounded most_place (ltb room (length (bonds_of xs))) 9 0 (omega arith)) (λ v f.
    then_bounded most_place (refuse_if (ltb most_denominator (denominator (graph_of n xs))) 8 0) _ (if_bounded most_place (ltb most_denominator (denominator (graph_of n xs))) 8 0 (omega arith)) (λ w g. tt)))

szeged_bounded : (n : ℕ) (xs : List ℕ) (room : ℕ) → Bounded most_place (szeged_reply n xs room)
unfolding szeged_reply
szeged_bounded n xs room =
    then_bounded most_place (block_reply n xs) _ (block_here n xs) (λ u e.
    then_bounded most_place (refuse_if (ltb room (length (bonds_of xs))) 9 0) _ (if_bounded most_place (ltb room (length (bonds_of xs))) 9 0 (omega arith)) (λ v f. tt))

-- one number beside those of the bonds
beside_bounded : (n : ℕ) (xs : List ℕ) (entries : ℕ) (x : Read ℕ) → Bounded most_place x → Bounded most_place (beside_reply n xs entries x)
beside_bounded n xs entries x s =
    then_bounded most_place (block_reply n xs) _ (block_here n xs) (λ u e.
    then_bounded most_place (refuse_if (ltb entries 1) 9 0) _ (if_bounded most_place (ltb entries 1) 9 0 (omega arith)) (λ v f. s))

balaban_bounded : (n : ℕ) (xs : List ℕ) → Bounded most_place (balaban_reply n xs)
unfolding balaban_reply
balaban_bounded n xs = then_bounded most_place (block_reply n xs) _ (block_here n xs) (λ u e. tt)

text_bounded : (n : ℕ) (xs : List ℕ) (room : ℕ) → Bounded most_place (molwriter.molfile_write_reply n xs room)
unfolding molwriter.molfile_write_reply
text_bounded n xs room =
    let t = ltb room (length (molwriter.molfile_text n (bonds_of xs))) in
    then_bounded most_place (block_reply n xs) _ (block_here n xs) (λ u e.
    then_bounded most_place (refuse_if t 9 0) _ (if_bounded most_place t 9 0 (omega arith)) (λ v f. tt))

fields_bounded : (form : Form) (d : List ℕ) → Bounded most_place (fields_reply form d)
unfolding fields_reply
fields_bounded form d = then_bounded most_place (deck_reply form d) (λ k. read (indices_of (molecule_of d k))) (deck_bounded form d) (λ k e. tt)

placed_bounded : (d : List ℕ) (k i l j : ℕ) → Bounded most_place (placed_distance_reply d k i l j)
unfolding placed_distance_reply
placed_bounded d k i l j =
    then_bounded most_place (deck_reply Composed d) _ (deck_bounded Composed d) (λ deck e.
    then_bounded most_place (refuse_if (is_missing d deck k i || is_missing d deck l j) 18 0) _ (if_bounded most_place (is_missing d deck k i || is_missing d deck l j) 18 0 (omega arith)) (λ v f. tt))

write_bounded : (s : Sheet) (d : List ℕ) (n : ℕ) → Bounded most_place (sheet_write_reply s d n)
unfolding sheet_write_reply
write_bounded s d n =
    let short = ltb n (sheet_bytes s) in
    then_bounded most_place (refuse_if (ltb longest_deck (length d)) 20 0) _ (if_bounded most_place (ltb longest_deck (length d)) 20 0 (omega arith)) (λ u e.
    then_bounded most_place (refuse_if short 9 0) (λ _. fields_reply Composed d) (if_bounded most_place short 9 0 (omega arith)) (λ v f. fields_bounded Composed d))

-- the first wrong field of a deck that is judged
abbrev wrong_in : List ℕ → Deck → ℕ
wrong_in d k = first_wrong 1 (sheet_of (sheet_at d k.sheet) (molecule_of d k)) (claimed_at d k.sheet)

judge_bounded : (d : List ℕ) → Bounded most_place (judge_reply d)
unfolding judge_reply
judge_bounded d = then_bounded most_place (deck_reply Judged d) (λ k. read (wrong_in d k)) (deck_bounded Judged d) (λ k e. tt)

-- an answer as a list of numbers, and 9 where that does not fit
pub listed : {A B : Type 0} (x : Read A) (f : A → List B) → Bounded most_place x → Bounded most_place (x then λ a. read (f a))
listed (refused r) f s = s
listed (read a) f s = tt

pub lent : {A : Type 0} (room : ℕ) (x : Read (List A)) → Bounded most_place x → Tells (fitting room x)
lent room x s = tells (fitting room x) (fits x s)
  where
    fits : {A : Type 0} (x : Read (List A)) → Bounded most_place x → Bounded most_place (fitting room x)
    fits (refused r) s = s
    fits (read xs) s = then_bounded most_place (refuse_if (ltb room (length xs)) 9 0) (λ _. read xs) (if_bounded most_place (ltb room (length xs)) 9 0 (omega arith)) (λ v e. tt)

-- and 9 where a second output has too few entries
pub roomed : {A : Type 0} (entries wanted : ℕ) (x : Read A) → Bounded most_place x → Tells (with_room entries wanted x)
roomed entries wanted x s =
    tells (with_room entries wanted x)
    (then_bounded most_place x _ s (λ a e.
    then_bounded most_place (refuse_if (ltb entries wanted) 9 0) (λ _. read a) (if_bounded most_place (ltb entries wanted) 9 0 (omega arith)) (λ v f. tt)))

pub roomed_text : {A : Type 0} (c entries wanted : ℕ) (x : Read A) → 1 ≤ c → Bounded c x → TellsText (with_room entries wanted x)
roomed_text c entries wanted x l s =
    tells_text c (with_room entries wanted x)
    (then_bounded c x _ s (λ a e.
    then_bounded c (refuse_if (ltb entries wanted) 9 0) (λ _. read a) (if_bounded c (ltb entries wanted) 9 0 (omega arith)) (λ v f. tt)))

-- the first wrong field of two lists of fields
first_wrong_lem : (k : ℕ) (xs ys : List ℕ) → first_wrong k xs ys ≤ k + length xs
unfolding first_wrong
first_wrong_lem k [] [] = omega arith
first_wrong_lem k [] (y ∷ ys) = omega arith
first_wrong_lem k (x ∷ xs) [] = omega arith
first_wrong_lem k (x ∷ xs) (y ∷ ys) = go (eqb x y) (first_wrong_lem (suc k) xs ys)
  where
    go : (t : Bool) → first_wrong (suc k) xs ys ≤ suc k + length xs → cond t (first_wrong (suc k) xs ys) k ≤ k + length (x ∷ xs)
    go true h = omega (arith, h)
    go false h = omega arith

few_fields : (s : Sheet) (x : Indices) → length (fields_of s x) ≤ 6
unfolding fields_of all_fields
few_fields Five x = omega arith
few_fields Six x = omega arith

field_small : (d : List ℕ) (k : ℕ) → judge_reply d ≡ read k → k < most_place
unfolding judge_reply sheet_of
field_small d k e = go (deck_reply Judged d) e
  where
    go : (x : Read Deck) → (x then λ k. read (wrong_in d k)) ≡ read k → k < most_place
    go (refused r) q = absurd (let z : ◌≡◌ {A = ℕ} 0 1 = cc in omega arith)
    go (read a) q =
        let same : wrong_in d a ≡ k = cc in
        let s = sheet_at d a.sheet in
        let x = indices_of (molecule_of d a) in
        omega (arith, same, first_wrong_lem 1 (fields_of s x) (claimed_at d a.sheet), few_fields s x)

-- FUNCTION BY FUNCTION
pub check_tells : (n : ℕ) (xs : List ℕ) → Tells (block_reply n xs)
check_tells n xs = tells (block_reply n xs) (block_here n xs)

pub indices_tells : (n : ℕ) (xs : List ℕ) (room : ℕ) → Tells (fitting room (indices_list n xs))
indices_tells n xs room = lent room (indices_list n xs) (listed (indices_reply n xs) (fields_of Five) (indices_bounded n xs))

pub farthest_tells : (n : ℕ) (xs : List ℕ) (a room : ℕ) → Tells (fitting room (farthest_list n xs a))
farthest_tells n xs a room = lent room (farthest_list n xs a) (listed (row_reply n xs a) (λ x. x.1 ∷ []) (row_bounded n xs a))

pub vertex_tells : (n : ℕ) (xs : List ℕ) (a room : ℕ) → Tells (fitting room (vertex_list n xs a))
vertex_tells n xs a room = lent room (vertex_list n xs a) (listed (vertex_reply n xs a) sums_of (vertex_bounded n xs a))

pub polynomial_tells : (n : ℕ) (xs : List ℕ) (x : Float) (room : ℕ) → Tells (fitting room (polynomial_list n xs x))
polynomial_tells n xs x room = lent room (polynomial_list n xs x) (listed (polynomial_reply n xs x) values_list (polynomial_bounded n xs x))

pub count_sets_tells : (n : ℕ) (xs : List ℕ) (room : ℕ) → Tells (fitting room (sets_list n xs))
count_sets_tells n xs room = lent room (sets_list n xs) (listed (sets_reply n xs) sets_numbers (sets_bounded n xs))

pub contributions_tells : (n : ℕ) (xs : List ℕ) (room entries : ℕ) → Tells (contributions_reply n xs room entries)
contributions_tells n xs room entries = tells (contributions_reply n xs room entries) (beside_bounded n xs entries (shares_reply n xs room) (shares_bounded n xs room))

pub szeged_tells : (n : ℕ) (xs : List ℕ) (room entries : ℕ) → Tells (beside_reply n xs entries (szeged_reply n xs room))
szeged_tells n xs room entries = tells (beside_reply n xs entries (szeged_reply n xs room)) (beside_bounded n xs entries (szeged_reply n xs room) (szeged_bounded n xs room))

pub balaban_tells : (n : ℕ) (xs : List ℕ) (room : ℕ) → Tells (fitting room (balaban_list n xs))
balaban_tells n xs room = lent room (balaban_list n xs) (listed (balaban_reply n xs) (λ j. j ∷ []) (balaban_bounded n xs))

pub molfile_written_tells : (n : ℕ) (xs : List ℕ) (room entries : ℕ) → Tells (written_reply n xs room entries)
molfile_written_tells n xs room entries = roomed entries 1 (molwriter.molfile_write_reply n xs room) (text_bounded n xs room)

pub compose_tells : (s : Sheet) (d : List ℕ) (room : ℕ) → Tells (fitting room (composed_list s d))
compose_tells s d room = lent room (composed_list s d) (listed (fields_reply Composed d) (fields_of s) (fields_bounded Composed d))

pub placed_tells : (d : List ℕ) (k i l j room : ℕ) → Tells (fitting room (placed_list d k i l j))
placed_tells d k i l j room = lent room (placed_list d k i l j) (listed (placed_distance_reply d k i l j) (λ n. n ∷ []) (placed_bounded d k i l j))

pub write_tells : (s : Sheet) (d : List ℕ) (n : ℕ) → Tells (sheet_write_reply s d n)
write_tells s d n = tells (sheet_write_reply s d n) (write_bounded s d n)

pub judge_tells : (d : List ℕ) → Judges (judge_reply d)
judge_tells d = judges (judge_reply d) (judge_bounded d) (field_small d)
