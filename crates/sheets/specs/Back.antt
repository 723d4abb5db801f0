-- Laws. What is written is read back, and two sheets differ in no field exactly when they are equal. Assumes nothing.
use Rattle.std.specs.Prelude.{ℕ, zero, suc, ◌+◌, ◌^◌, ◌<◌, Bool, true, false, cond, ◌≡◌, refl, eqb, length, take, drop}
use mathlib.Core.List.{List, [], ◌∷◌, ◌++◌, append_assoc, append-nil}
use Rattle.std.proofs.Common.{sym, ◌∙◌, ap, ap₂, arith, eq-eqb, eqb-true, lit<, length-append}
use Rattle.block.specs.declared.Indices.{Indices}
use Rattle.records.specs.Bytes.{little, little_bytes}
use Rattle.records.specs.Records.{sheet_kind}
use Rattle.records.specs.declared.Sheet.{Sheet}
use Rattle.records.specs.declared.Sheet.TheVariants.{Five, Six}
use Rattle.records.specs.Longer.{little_behind}
use Rattle.records.specs.Back.{length_little, behind, little_back}
use Rattle.sheets.specs.Sheets.{all_fields, all_widths, field_count, widths, fields_of, fields_at, field_bytes, sheet_record, sheet_bytes, first_wrong}
use Rattle.sheets.specs.Along.{widths_total}

-- the widths of a sheet are its payload, and there is one for each field
pub widths_fill : (s : Sheet) → widths_total (widths s) ≡ (sheet_kind s).fixed
unfolding widths_total widths
widths_fill Five = refl
widths_fill Six = refl

pub one_each : (s : Sheet) (x : Indices) → length (fields_of s x) ≡ length (widths s)
unfolding fields_of all_fields widths
one_each Five x = refl
one_each Six x = refl

-- fields of some widths take as many bytes as these come to
length_bytes : (ws xs : List ℕ) → length xs ≡ length ws → length (field_bytes ws xs) ≡ widths_total ws
unfolding field_bytes widths_total
length_bytes [] xs e = refl
length_bytes (w ∷ ws) [] e = absurd (omega arith)
length_bytes (w ∷ ws) (x ∷ xs) e =
    let l : length xs ≡ length ws = omega arith in
    length-append (little_bytes w x) (field_bytes ws xs) ∙ ap₂ ◌+◌ (length_little w x) (length_bytes ws xs l)

pub length_sheet : (s : Sheet) (x : Indices) → length (sheet_record s (fields_of s x)) ≡ sheet_bytes s
unfolding sheet_record widths_total
length_sheet s x =
    let head = (sheet_kind s).fixed ∷ (sheet_kind s).number ∷ [] in
    length_bytes (2 ∷ 2 ∷ widths s) ((sheet_kind s).fixed ∷ (sheet_kind s).number ∷ fields_of s x) (ap (λ (n : ℕ). suc (suc n)) (one_each s x)) ∙ omega (arith, widths_fill s)

-- each number fits its width
abbrev pub FitWidths : List ℕ → List ℕ → Type 0
FitWidths [] [] = Unit {0}
FitWidths [] (x ∷ xs) = ⊥
FitWidths (w ∷ ws) [] = ⊥
FitWidths (w ∷ ws) (x ∷ xs) = (x < 256 ^ w) × FitWidths ws xs

fields_back : (ws xs : List ℕ) (d : List ℕ) (at : ℕ) (cs : List ℕ) → FitWidths ws xs → drop at d ≡ field_bytes ws xs ++ cs → fields_at ws d at ≡ xs
unfolding field_bytes fields_at
fields_back [] [] d at cs f e = refl
fields_back [] (x ∷ xs) d at cs f e = absurd f
fields_back (w ∷ ws) [] d at cs f e = absurd f
fields_back (w ∷ ws) (x ∷ xs) d at cs f e =
    let q : drop at d ≡ little_bytes w x ++ (field_bytes ws xs ++ cs) = e ∙ append_assoc (little_bytes w x) (field_bytes ws xs) cs in
    ap₂ (λ (y : ℕ) (ys : List ℕ). y ∷ ys)
    (little_back w x d at (field_bytes ws xs ++ cs) f.0 q)
    (fields_back ws xs d (at + w) cs f.1 (behind d at (little_bytes w x) (field_bytes ws xs ++ cs) w (length_little w x) q))

-- if all fit, those of a sheet do
fit_some : (n : ℕ) (ws xs : List ℕ) → FitWidths ws xs → FitWidths (take n ws) (take n xs)
fit_some zero ws xs f = tt
fit_some (suc n) [] [] f = tt
fit_some (suc n) [] (x ∷ xs) f = absurd f
fit_some (suc n) (w ∷ ws) [] f = absurd f
fit_some (suc n) (w ∷ ws) (x ∷ xs) f = (f.0, fit_some n ws xs f.1)

pub fit_of : (s : Sheet) (x : Indices) → FitWidths all_widths (all_fields x) → FitWidths (widths s) (fields_of s x)
unfolding fields_of widths
fit_of s x f = fit_some (field_count s) all_widths (all_fields x) f

-- The record of a sheet whose fields fit says them.
module _ (s : Sheet) (x : Indices) (fit : FitWidths (widths s) (fields_of s x)) where
  abbrev bytes : List ℕ
  bytes = sheet_record s (fields_of s x)

  head_fits : (s : Sheet) → ((sheet_kind s).fixed < 256 ^ 2) × ((sheet_kind s).number < 256 ^ 2)
  head_fits Five = (lit< tt, lit< tt)
  head_fits Six = (lit< tt, lit< tt)

  -- all that is read of it: its length, its kind, and the fields
  pub read_whole : fields_at (2 ∷ 2 ∷ widths s) bytes 0 ≡ (sheet_kind s).fixed ∷ (sheet_kind s).number ∷ fields_of s x
  unfolding sheet_record
  read_whole =
      let h = head_fits s in
      let all : FitWidths (2 ∷ 2 ∷ widths s) ((sheet_kind s).fixed ∷ (sheet_kind s).number ∷ fields_of s x) = (h.0, (h.1, fit)) in
      fields_back (2 ∷ 2 ∷ widths s) ((sheet_kind s).fixed ∷ (sheet_kind s).number ∷ fields_of s x) bytes 0 [] all (sym (append-nil bytes))

-- bytes before a sheet do not matter
pub fields_behind : (d s ws : List ℕ) (at : ℕ) → fields_at ws (d ++ s) (length d + at) ≡ fields_at ws s at
unfolding fields_at
fields_behind d s [] at = refl
fields_behind d s (w ∷ ws) at =
    let e : length d + at + w ≡ length d + (at + w) = omega arith in
    ap₂ ◌∷◌ (little_behind d s w at) (ap (fields_at ws (d ++ s)) e ∙ fields_behind d s ws (at + w))

-- the first of some fields that are read
pub fields_some : (n : ℕ) (ws d : List ℕ) (at : ℕ) → take n (fields_at ws d at) ≡ fields_at (take n ws) d at
unfolding fields_at
fields_some zero ws d at = refl
fields_some (suc n) [] d at = refl
fields_some (suc n) (w ∷ ws) d at = ap (λ (ys : List ℕ). little w d at ∷ ys) (fields_some n ws d (at + w))

-- two sheets differ in no field exactly when they are equal
pub none_wrong : (k : ℕ) (xs : List ℕ) → first_wrong k xs xs ≡ 0
unfolding first_wrong
none_wrong k [] = refl
none_wrong k (x ∷ xs) = rw (eq-eqb x x refl) (none_wrong (suc k) xs)

pub wrong_none : (k : ℕ) (xs ys : List ℕ) → first_wrong (suc k) xs ys ≡ 0 → xs ≡ ys
unfolding first_wrong
wrong_none k [] [] e = refl
wrong_none k [] (y ∷ ys) e = absurd (omega arith)
wrong_none k (x ∷ xs) [] e = absurd (omega arith)
wrong_none k (x ∷ xs) (y ∷ ys) e = go (eqb x y) refl e (wrong_none (suc k) xs ys)
  where
    go : (t : Bool) → eqb x y ≡ t → cond t (first_wrong (suc (suc k)) xs ys) (suc k) ≡ 0 → (first_wrong (suc (suc k)) xs ys ≡ 0 → xs ≡ ys) → x ∷ xs ≡ y ∷ ys
    go true q h more = ap₂ (λ (z : ℕ) (zs : List ℕ). z ∷ zs) (eqb-true x y q) (more h)
    go false q h more = absurd (omega arith)
