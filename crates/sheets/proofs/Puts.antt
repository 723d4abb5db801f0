-- Laws. Bytes stored one after the other: a number's, and a record's field by field. Assumes nothing.
use Prim.Native.Nat.{ℕ, suc, ◌+◌, ◌≤◌, ◌<◌, min}
use mathlib.Core.List.{List, [], ◌∷◌, ◌++◌, append-nil}
use mathlib.Core.Path.{◌≡◌, refl, sym, ◌∙◌, ap, ap₂}
use native.Mathlib.Numerals.{add-one}
use native.Mathlib.Omega.{arith}
use borrow.Author.Tests.{lt-ltb, le-ltb, eq-eqb, ne_eqb}
use lib.ListN.{length, get_or, set, take, drop, replicate, length-set, drop_of_length-le}
use lib.Seq.{sets, sets-eq, length-take-le, drop-cons}
use Rattle.block.specs.declared.Indices.{Indices}
use Rattle.records.specs.Bytes.{little, little_bytes}
use Rattle.records.specs.Stored.{joined}
use Rattle.records.specs.Records.{head_bytes, sheet_kind, sheet_at}
use Rattle.records.specs.declared.Kind.{Kind}
use Rattle.records.specs.declared.Sheet.{Sheet}
use Rattle.records.specs.declared.Sheet.TheVariants.{Five, Six}
use Rattle.records.proofs.Numbers.{past}
use Rattle.sheets.specs.Sheets.{all_fields, all_widths, field_count, widths, fields_of, fields_at, claimed_at, field_bytes, sheet_record, sheet_bytes, sheet_put, first_wrong}
use Rattle.sheets.specs.Along.{widths_total, Narrow}
use Rattle.records.specs.Back.{length_little}
use Rattle.sheets.specs.Back.{length_sheet, fields_some}

pub length_fields : (ws d : List ℕ) (at : ℕ) → length (fields_at ws d at) ≡ length ws
unfolding fields_at
length_fields [] d at = refl
length_fields (w ∷ ws) d at = ap suc (length_fields ws d (at + w))

-- a field is put, and then the rest
one_field : (a b : List ℕ) (at w x : ℕ) (ws xs : List ℕ) → b ≡ sets a at (little_bytes w x) → sets a at (field_bytes (w ∷ ws) (x ∷ xs)) ≡ sets b (at + w) (field_bytes ws xs)
unfolding field_bytes
one_field a b at w x ws xs e = sym (joined a (little_bytes w x) (field_bytes ws xs) at (at + w) e refl (ap (λ (n : ℕ). at + n) (sym (length_little w x))))

pub two_fields : (o : List ℕ) {o₁ o₂ : List ℕ} (n k : ℕ) → o₁ ≡ sets o 0 (little_bytes 2 n) → o₂ ≡ sets o₁ 2 (little_bytes 2 k) → o₂ ≡ sets o 0 (field_bytes (2 ∷ 2 ∷ []) (n ∷ k ∷ []))
unfolding field_bytes
two_fields o {o₁} {o₂} n k e f = sym (one_field o o₁ 0 2 n (2 ∷ []) (k ∷ []) e ∙ one_field o₁ o₂ 2 2 k [] [] f)

pub five_fields : (o : List ℕ) {o₁ o₂ o₃ o₄ o₅ : List ℕ} (a b c d e : ℕ) → o₁ ≡ sets o 4 (little_bytes 4 a) → o₂ ≡ sets o₁ 8 (little_bytes 8 b) → o₃ ≡ sets o₂ 16 (little_bytes 8 c)
    → o₄ ≡ sets o₃ 24 (little_bytes 8 d) → o₅ ≡ sets o₄ 32 (little_bytes 8 e) → o₅ ≡ sets o head_bytes (field_bytes (widths Five) (a ∷ b ∷ c ∷ d ∷ e ∷ []))
unfolding field_bytes widths
five_fields o {o₁} {o₂} {o₃} {o₄} {o₅} a b c d e p q r s t =
    sym (one_field o o₁ 4 4 a (8 ∷ 8 ∷ 8 ∷ 8 ∷ []) (b ∷ c ∷ d ∷ e ∷ []) p ∙ one_field o₁ o₂ 8 8 b (8 ∷ 8 ∷ 8 ∷ []) (c ∷ d ∷ e ∷ []) q
    ∙ one_field o₂ o₃ 16 8 c (8 ∷ 8 ∷ []) (d ∷ e ∷ []) r ∙ one_field o₃ o₄ 24 8 d (8 ∷ []) (e ∷ []) s ∙ one_field o₄ o₅ 32 8 e [] [] t)

pub fields_five : (s : Sheet) (x : Indices) (o : List ℕ) {o₁ : List ℕ} → s ≡ Five → o₁ ≡ sets o head_bytes (field_bytes (widths Five) (x.atoms ∷ x.w ∷ x.even ∷ x.odd ∷ x.polarity ∷ []))
    → o₁ ≡ sets o head_bytes (field_bytes (widths s) (fields_of s x))
unfolding fields_of all_fields
fields_five s x o q e = rw q e

pub fields_six : (s : Sheet) (x : Indices) (o : List ℕ) {o₁ o₂ : List ℕ} → s ≡ Six → o₁ ≡ sets o head_bytes (field_bytes (widths Five) (x.atoms ∷ x.w ∷ x.even ∷ x.odd ∷ x.polarity ∷ []))
    → o₂ ≡ sets o₁ 40 (little_bytes 4 x.largest) → o₂ ≡ sets o head_bytes (field_bytes (widths s) (fields_of s x))
unfolding fields_of all_fields widths field_bytes little_bytes
fields_six s x o q e f = rw q (joined o (field_bytes (widths Five) (x.atoms ∷ x.w ∷ x.even ∷ x.odd ∷ x.polarity ∷ [])) (little_bytes 4 x.largest) 4 40 e f refl)

-- And of reading.
pub fields_past : (ws d : List ℕ) (at : ℕ) → length d ≤ at → fields_at ws d at ≡ replicate (length ws) 0
unfolding fields_at
fields_past [] d at h = refl
fields_past (w ∷ ws) d at h = ap₂ (λ (y : ℕ) (ys : List ℕ). y ∷ ys) (past w d at h) (fields_past ws d (at + w) (omega arith))

pub record Reading (ws d out₀ : List ℕ) (from i at : ℕ) (out : List ℕ) : Type 0 where
  pub more : sets out₀ 0 (fields_at ws d from) ≡ sets out i (fields_at (drop i ws) d at)
  pub narrow : Narrow (drop i ws)
  pub room : at + widths_total (drop i ws) ≤ from + widths_total ws
  pub same : length out ≡ length out₀

module _ {ws d out₀ : List ℕ} {from : ℕ} where
  pub read_none : Narrow ws → Reading ws d out₀ from 0 from out₀
  read_none h = record { more = refl; narrow = h; room = omega arith; same = refl }

  module _ {i at : ℕ} {out : List ℕ} where
    pub read_room : i < length ws → Reading ws d out₀ from i at out → at + get_or ws i 0 ≤ from + widths_total ws
    unfolding widths_total
    read_room l p = omega (arith, rw (drop-cons ws i 0 l) at p.room)

    pub read_one : (n : ℕ) → i < length ws → n ≡ little (min (get_or ws i 0) 8) d at → Reading ws d out₀ from i at out
        → Reading ws d out₀ from (i + 1) (at + get_or ws i 0) (set out i n)
    unfolding widths_total Narrow fields_at
    read_one n l q p =
        let w = get_or ws i 0 in
        let c = drop-cons ws i 0 l in
        let a = rw c at p.narrow in
        let e : min w 8 ≡ w = omega (arith, a.0) in
        record {
          more = rw (add-one i) (p.more ∙ ap (λ (vs : List ℕ). sets out i (fields_at vs d at)) c ∙ ap (λ (m : ℕ). sets (set out i m) (suc i) (fields_at (drop (suc i) ws) d (at + w))) (sym (q ∙ ap (λ (k : ℕ). little k d at) e)));
          narrow = rw (add-one i) a.1;
          room = rw (add-one i) (omega (arith, rw c at p.room));
          same = length-set out i n ∙ p.same;
        }

    pub read_all : length ws ≤ i → length out₀ ≡ length ws → Reading ws d out₀ from i at out → out ≡ fields_at ws d from
    unfolding fields_at
    read_all h e p =
        let n = length_fields ws d from in
        sym (
        sym (sets-eq (fields_at ws d from) out₀ 0 (omega (arith, n)) ∙ ap (λ (xs : List ℕ). fields_at ws d from ++ xs) (drop_of_length-le out₀ {i = 0 + length (fields_at ws d from)} (omega (arith, n))) ∙ append-nil (fields_at ws d from))
        ∙ p.more
        ∙ ap (λ (vs : List ℕ). sets out i (fields_at vs d at)) (drop_of_length-le ws {i = i} h)
        )

-- the head, and then the fields
head_first : (o o₁ : List ℕ) (n k : ℕ) (ws xs : List ℕ) → o₁ ≡ sets o 0 (field_bytes (2 ∷ 2 ∷ []) (n ∷ k ∷ [])) → sets o 0 (field_bytes (2 ∷ 2 ∷ ws) (n ∷ k ∷ xs)) ≡ sets o₁ 4 (field_bytes ws xs)
unfolding field_bytes
head_first o o₁ n k ws xs e =
    let mid = sets o 0 (little_bytes 2 n) in
    let last = sets mid 2 (little_bytes 2 k) in
    let f : o₁ ≡ last = e ∙ one_field o mid 0 2 n (2 ∷ []) (k ∷ []) refl ∙ one_field mid last 2 2 k [] [] refl in
    one_field o mid 0 2 n (2 ∷ ws) (k ∷ xs) refl ∙ one_field mid o₁ 2 2 k ws xs f

module _ (s : Sheet) (x : Indices) where
  whole : (out after : List ℕ) → sheet_bytes s ≤ length out → sets out 0 (sheet_record s (fields_of s x)) ≡ after → after ≡ sheet_put s out (fields_of s x)
  unfolding sheet_put
  whole out after h e =
      let r = sheet_record s (fields_of s x) in
      let l : 0 + length r ≡ sheet_bytes s = omega (arith, length_sheet s x) in
      rw (le-ltb (length out) (sheet_bytes s) h) (sym e ∙ sets-eq r out 0 (omega (arith, length_sheet s x)) ∙ ap (λ (n : ℕ). take 0 out ++ r ++ drop n out) l)

  -- the head and the fields, put one after the other
  pub head_and_fields : (o o₁ o₂ : List ℕ) (k : Kind) → sheet_bytes s ≤ length o → k ≡ sheet_kind s → o₁ ≡ sets o 0 (field_bytes (2 ∷ 2 ∷ []) (k.fixed ∷ k.number ∷ []))
      → o₂ ≡ sets o₁ head_bytes (field_bytes (widths s) (fields_of s x)) → o₂ ≡ sheet_put s o (fields_of s x)
  unfolding sheet_record
  head_and_fields o o₁ o₂ k h e a d =
      let f = a ∙ ap (λ (k : Kind). sets o 0 (field_bytes (2 ∷ 2 ∷ []) (k.fixed ∷ k.number ∷ []))) e in
      whole o o₂ h (head_first o o₁ (sheet_kind s).fixed (sheet_kind s).number (widths s) (fields_of s x) f ∙ sym d)

  pub too_short : (out : List ℕ) → length out < sheet_bytes s → out ≡ sheet_put s out (fields_of s x)
  unfolding sheet_put
  too_short out h = rw (lt-ltb (length out) (sheet_bytes s) h)

-- of all fields, those of a sheet
pub fields_taken : (s : Sheet) (x : Indices) (n : ℕ) (xs : List ℕ) → n ≡ field_count s → xs ≡ all_fields x → take n xs ≡ fields_of s x
unfolding fields_of
fields_taken s x n xs e f = ap₂ (λ (m : ℕ) (ys : List ℕ). take m ys) e f

-- of all numbers that could stand in a sheet, those that it claims
pub claims_taken : (d : List ℕ) (at n : ℕ) (ys : List ℕ) → n ≡ field_count (sheet_at d at) → ys ≡ fields_at all_widths d (at + head_bytes) → take n ys ≡ claimed_at d at
unfolding claimed_at widths
claims_taken d at n ys e f = ap₂ (λ (m : ℕ) (zs : List ℕ). take m zs) e f ∙ fields_some (field_count (sheet_at d at)) all_widths d (at + head_bytes)

-- no sheet has more fields than there are, so that many are there to be lent
few_fields : (s : Sheet) → field_count s ≤ length all_widths
few_fields Five = omega arith
few_fields Six = omega arith

pub there : (s : Sheet) (n : ℕ) (xs : List ℕ) → n ≡ field_count s → length xs ≡ length all_widths → n ≤ length xs
there s n xs e l = omega (arith, few_fields s)

pub lent : (s : Sheet) (n : ℕ) (xs : List ℕ) → n ≡ field_count s → length xs ≡ length all_widths → n ≡ length (take n xs)
lent s n xs e l = sym (length-take-le n xs (there s n xs e l))

pub length_all : (x : Indices) → length (all_fields x) ≡ length all_widths
unfolding all_fields
length_all x = refl

-- two lists of fields compared from i on: they differ there, or later, or nowhere
module _ (xs ys : List ℕ) (i : ℕ) where
  pub wrong_here : i < length xs → length xs ≡ length ys → (get_or xs i 0 ≡ get_or ys i 0 → ⊥) → first_wrong (suc i) (drop i xs) (drop i ys) ≡ i + 1
  unfolding first_wrong
  wrong_here l e n = rw (drop-cons xs i 0 l, drop-cons ys i 0 (omega arith), ne_eqb (get_or xs i 0) (get_or ys i 0) n) (sym (add-one i))

  pub wrong_later : i < length xs → length xs ≡ length ys → get_or xs i 0 ≡ get_or ys i 0 → first_wrong (suc i) (drop i xs) (drop i ys) ≡ first_wrong (suc (i + 1)) (drop (i + 1) xs) (drop (i + 1) ys)
  unfolding first_wrong
  wrong_later l e s = rw (drop-cons xs i 0 l, drop-cons ys i 0 (omega arith), eq-eqb (get_or xs i 0) (get_or ys i 0) s, add-one i)

  pub wrong_nowhere : length xs ≤ i → length xs ≡ length ys → first_wrong (suc i) (drop i xs) (drop i ys) ≡ 0
  unfolding first_wrong
  wrong_nowhere h e = rw (drop_of_length-le xs {i = i} h, drop_of_length-le ys {i = i} (omega arith))
