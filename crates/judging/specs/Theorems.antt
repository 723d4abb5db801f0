-- Laws. A written sheet is accepted, and each promise determines its reply and its bytes. Assumes nothing.
use Rattle.std.specs.Prelude.{ℕ, ◌+◌, ◌≤◌, ◌≡◌, refl, ltb, length, take, drop, Result, Ok}
use mathlib.Core.List.{List, ◌++◌}
use Rattle.std.proofs.Common.{sym, ◌∙◌, arith, le-ltb, ltb-false, take_at}
use Rattle.std.proofs.Math.Path.{ap}
use Rattle.std.proofs.Math.ListN.{get_or}
use Rattle.graph.specs.Bounds.{tame_itself, tame_even, tame_odd, tame_at}
use Rattle.reply.specs.Read.{Read, refused, read, refuse_if, as_result}
use Rattle.reply.specs.Chain.{then-read, if_read}
use Rattle.block.specs.Index.{indices_of}
use Rattle.block.specs.declared.Indices.{Indices}
use Rattle.deck.specs.Deck.{longest_deck, Deck, deck_reply}
use Rattle.deck.specs.Molecule.{molecule_of}
use Rattle.deck.specs.Sized.{longest_composed, composed_short, atoms_few, totals_small, largest_small}
use Rattle.deck.specs.Followed.{IsSheet, told_behind, ends, same_molecule, followed}
use Rattle.deck.specs.declared.Form.{Form}
use Rattle.deck.specs.declared.Form.TheVariants.{Composed, Judged}
use Rattle.records.specs.Records.{head_bytes, sheet_at}
use Rattle.records.specs.declared.Sheet.{Sheet}
use Rattle.records.specs.declared.Sheet.TheVariants.{Five, Six}
use Rattle.sheets.specs.Sheets.{all_fields, all_widths, fields_of, widths, fields_at, sheet_of, first_wrong, claimed_at, sheet_bytes, sheet_record, sheet_put}
use Rattle.sheets.specs.Back.{FitWidths, fit_of, length_sheet, read_whole, fields_behind, none_wrong}
use Rattle.compose.specs.Fields.{fields_reply}
use Rattle.judging.specs.Judging.{judge_reply, said_verdict, sheet_write_reply, said_sheet_written, sheet_out}
use Rattle.judging.specs.declared.Verdict.{Verdict}
use Rattle.judging.specs.declared.Verdict.TheVariants as verdict
use Rattle.reply.specs.declared.Refusal.{Refusal}

-- all fields of a deck's molecule fit their widths
fields_fit : (form : Form) (d : List ℕ) (k : Deck) → deck_reply form d ≡ read k → FitWidths all_widths (all_fields (indices_of (molecule_of d k)))
unfolding all_fields indices_of
fields_fit form d k e = (
  omega (arith, atoms_few form d k e),
  (
    omega (arith, totals_small form d k e tame_itself),
    (
      omega (arith, totals_small form d k e tame_even),
      (
        omega (arith, totals_small form d k e tame_odd),
        (
          omega (arith, totals_small form d k e (tame_at 3)),
          (
            omega (arith, largest_small form d k e),
            tt,
          ),
        ),
      ),
    ),
  ),
)

-- a sheet of either kind leaves room for itself behind a deck that composes
sheet_short : (s : Sheet) → longest_composed + sheet_bytes s ≤ longest_deck
sheet_short Five = omega arith
sheet_short Six = omega arith

-- The record of a sheet whose fields fit is one; behind a deck that composes it is taken, and claims its fields.
module _ (s : Sheet) (x : Indices) (fit : FitWidths (widths s) (fields_of s x)) where
  abbrev claim : List ℕ
  claim = sheet_record s (fields_of s x)

  is_sheet : IsSheet s claim
  unfolding fields_at
  is_sheet = let w = read_whole s x fit in record { size = length_sheet s x; payload = ap (λ (l : List ℕ). get_or l 0 0) w; kind = ap (λ (l : List ℕ). get_or l 1 0) w }

  module _ (d : List ℕ) (k : Deck) (e : deck_reply Composed d ≡ read k) where
    sheet_taken : deck_reply Judged (d ++ claim) ≡ read k
    sheet_taken = followed d k e claim is_sheet (omega (arith, length_sheet s x, composed_short d k e, sheet_short s))

    sheet_told : sheet_at (d ++ claim) k.sheet ≡ s
    sheet_told = ap (sheet_at (d ++ claim)) (ends d k e) ∙ told_behind d claim is_sheet

    sheet_claimed : claimed_at (d ++ claim) k.sheet ≡ fields_of s x
    unfolding claimed_at fields_at
    sheet_claimed =
        ap (λ (t : Sheet). fields_at (widths t) (d ++ claim) (k.sheet + head_bytes)) sheet_told
        ∙ ap (λ (n : ℕ). fields_at (widths s) (d ++ claim) (n + head_bytes)) (ends d k e)
        ∙ fields_behind d claim (widths s) head_bytes
        ∙ ap (drop 2) (read_whole s x fit)

    -- and is judged by the fields of the deck's molecule
    pub sheet_judged : judge_reply (d ++ claim) ≡ read (first_wrong 1 (sheet_of s (molecule_of d k)) (fields_of s x))
    unfolding judge_reply
    sheet_judged = rw (sheet_taken, sheet_claimed, sheet_told, same_molecule d k e claim)

module _ (s : Sheet) (d : List ℕ) (k : Deck) (e : deck_reply Composed d ≡ read k) where
  -- the record of the molecule's sheet, put behind its deck
  abbrev longer : List ℕ
  longer = d ++ sheet_record s (sheet_of s (molecule_of d k))

  sheet_accepted : judge_reply longer ≡ read 0
  unfolding sheet_of
  sheet_accepted =
      let x = indices_of (molecule_of d k) in
      sheet_judged s x (fit_of s x (fields_fit Composed d k e)) d k e ∙ ap read (none_wrong 1 (fields_of s x))

-- a buffer that took a sheet begins with its record
put_record : (s : Sheet) (out : List ℕ) (x : Indices) → sheet_bytes s ≤ length out → take (sheet_bytes s) (sheet_put s out (fields_of s x)) ≡ sheet_record s (fields_of s x)
unfolding sheet_put
put_record s out x h = rw (le-ltb (length out) (sheet_bytes s) h) (take_at (sheet_record s (fields_of s x)) _ (sheet_bytes s) (length_sheet s x))

-- a sheet that was written is that of the deck's molecule, and the buffer was long enough
pub sheet_made : (y : Read Indices) → said_sheet_written y ≡ Ok tt → (x : Indices) × (y ≡ read x)
sheet_made (refused r) e = absurd (let z : ◌≡◌ {A = ℕ} 0 1 = cc in omega arith)
sheet_made (read x) e = (x, refl)

made : (s : Sheet) (d : List ℕ) (n : ℕ) (x : Indices) → sheet_write_reply s d n ≡ read x → (k : Deck) × (deck_reply Composed d ≡ read k) × (x ≡ indices_of (molecule_of d k)) × (sheet_bytes s ≤ n)
unfolding sheet_write_reply fields_reply
made s d n x p =
    let (u, a, f) = then-read (refuse_if (ltb longest_deck (length d)) 20 0) _ p in
    let (v, b, g) = then-read (refuse_if (ltb n (sheet_bytes s)) 9 0) _ f in
    let (k, e, i) = then-read (deck_reply Composed d) (λ k. read (indices_of (molecule_of d k))) g in
    (k, e, cc, ltb-false n (sheet_bytes s) (if_read _ 9 0 b))

-- (b) the record that `write_sheet` writes, of either kind, put behind the same deck, is accepted
pub written_accepted : (s : Sheet) (d out : List ℕ) → said_sheet_written (sheet_write_reply s d (length out)) ≡ Ok tt
    → said_verdict (judge_reply (d ++ take (sheet_bytes s) (sheet_out s out (sheet_write_reply s d (length out))))) ≡ verdict.Accepted
unfolding sheet_of
written_accepted s d out h =
    let (x, p) = sheet_made (sheet_write_reply s d (length out)) h in
    let (k, e, q, l) = made s d (length out) x p in
    let b : take (sheet_bytes s) (sheet_out s out (sheet_write_reply s d (length out))) ≡ sheet_record s (sheet_of s (molecule_of d k)) =
    ap (λ (y : Read Indices). take (sheet_bytes s) (sheet_out s out y)) p ∙ put_record s out x l ∙ ap (λ (y : Indices). sheet_record s (fields_of s y)) q in
    ap (λ (r : List ℕ). said_verdict (judge_reply (d ++ r))) b ∙ ap said_verdict (sheet_accepted s d k e)

-- (c) two replies, and two buffers, that satisfy a promise are equal
pub unique-compose : (d : List ℕ) (r s : Result Indices Refusal) → r ≡ as_result (fields_reply Composed d) → s ≡ as_result (fields_reply Composed d) → r ≡ s
unique-compose d r s p q = p ∙ sym q

pub unique-judge : (d : List ℕ) (r s : Verdict) → r ≡ said_verdict (judge_reply d) → s ≡ said_verdict (judge_reply d) → r ≡ s
unique-judge d r s p q = p ∙ sym q

pub unique-written : (k : Sheet) (d : List ℕ) (n : ℕ) (r s : Result (Unit {0}) Refusal) → r ≡ said_sheet_written (sheet_write_reply k d n) → s ≡ said_sheet_written (sheet_write_reply k d n) → r ≡ s
unique-written k d n r s p q = p ∙ sym q

pub unique-bytes : (k : Sheet) (d out a b : List ℕ) → a ≡ sheet_out k out (sheet_write_reply k d (length out)) → b ≡ sheet_out k out (sheet_write_reply k d (length out)) → a ≡ b
unique-bytes k d out a b p q = p ∙ sym q
