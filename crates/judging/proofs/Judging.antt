-- From the fields that are composed to what the judge and the writer are told. Assumes nothing.
use Prim.Native.Nat.{ℕ, zero, suc, ◌≤◌, ◌<◌}
use mathlib.Core.List.{List}
use mathlib.Core.Path.{◌≡◌, refl, sym, ◌∙◌}
use native.Mathlib.Omega.{arith}
use borrow.Author.Tests.{lt-ltb, le-ltb}
use lib.ListN.{length}
use Rattle.reply.specs.Read.{Read, refused, read, ◌then◌, refusal, as_result}
use Rattle.block.specs.Index.{indices_of}
use Rattle.block.specs.declared.Indices.{Indices}
use Rattle.reply.specs.declared.Refusal.{Refusal}
use Rattle.records.specs.Records.{sheet_at}
use Rattle.records.specs.declared.Sheet.{Sheet}
use Rattle.deck.specs.Deck.{longest_deck, Deck, deck_reply}
use Rattle.deck.specs.Molecule.{molecule_of}
use Rattle.deck.specs.declared.Form.{Form}
use Rattle.deck.specs.declared.Form.TheVariants.{Composed, Judged}
use Rattle.sheets.specs.Sheets.{fields_of, sheet_of, claimed_at, sheet_bytes, first_wrong}
use Rattle.compose.specs.Fields.{compose_reply, fields_reply}
use Rattle.compose.specs.declared.Composed.{Composed as DeckFields}
use Rattle.judging.specs.Judging.{judge_reply, said_verdict, sheet_write_reply}
use Rattle.judging.specs.declared.Verdict.{Verdict}
use Rattle.judging.specs.declared.Verdict.TheVariants as verdict
use Rattle.reply.specs.Chain.{read_back}
use Rattle.std.specs.Prelude.{Result, Ok, Err}

-- what is composed, taken apart
pub composed-refused : (form : Form) (d : List ℕ) (r : Refusal) → ◌≡◌ {A = Result DeckFields Refusal} (Err r) (as_result (compose_reply form d)) → deck_reply form d ≡ refused r
unfolding compose_reply
composed-refused form d r = go (deck_reply form d)
  where
    go : (x : Read Deck) → ◌≡◌ {A = Result DeckFields Refusal} (Err r) (as_result (x then λ k. read (record { fields = indices_of (molecule_of d k); sheet = k.sheet }))) → x ≡ refused r
    go (refused q) e = cc
    go (read k) e = absurd (let z : ◌≡◌ {A = ℕ} 0 1 = cc in omega arith)

pub composed-read : (form : Form) (d : List ℕ) (x : DeckFields) → Ok x ≡ as_result (compose_reply form d)
    → (k : Deck) × (deck_reply form d ≡ read k) × (x.fields ≡ indices_of (molecule_of d k)) × (x.sheet ≡ k.sheet)
unfolding compose_reply
composed-read form d x = go (deck_reply form d)
  where
    go : (y : Read Deck) → Ok x ≡ as_result (y then λ k. read (record { fields = indices_of (molecule_of d k); sheet = k.sheet }))
        → (k : Deck) × (y ≡ read k) × (x.fields ≡ indices_of (molecule_of d k)) × (x.sheet ≡ k.sheet)
    go (refused q) e = absurd (let z : ◌≡◌ {A = ℕ} 0 1 = cc in omega arith)
    go (read k) e = (k, refl, cc, cc)

-- the fields alone
pub fields_refused : (form : Form) (d : List ℕ) (r : Refusal) → deck_reply form d ≡ refused r → Err r ≡ as_result (fields_reply form d)
unfolding fields_reply
fields_refused form d r e = rw e

pub fields_read : (form : Form) (d : List ℕ) (k : Deck) (x : Indices) → deck_reply form d ≡ read k → x ≡ indices_of (molecule_of d k) → Ok x ≡ as_result (fields_reply form d)
unfolding fields_reply
fields_read form d k x e q = rw (e, q)

pub judge_refused : (d : List ℕ) (r : Refusal) → deck_reply Judged d ≡ refused r → verdict.Refused r ≡ said_verdict (judge_reply d)
unfolding judge_reply
judge_refused d r e = rw e

pub judge_read : (d : List ℕ) (k : Deck) (x : Indices) (at n : ℕ) (v : Verdict) → deck_reply Judged d ≡ read k → x ≡ indices_of (molecule_of d k) → at ≡ k.sheet
    → n ≡ first_wrong 1 (fields_of (sheet_at d at) x) (claimed_at d at) → v ≡ said_verdict (read n) → v ≡ said_verdict (judge_reply d)
unfolding judge_reply sheet_of
judge_read d k x at n v e p a q f = f ∙ rw (e, q, p, a)

-- accepted where no field is wrong
pub accepts : (n : ℕ) → n ≡ 0 → verdict.Accepted ≡ said_verdict (read n)
accepts n e = rw e

pub differs : (n : ℕ) → (n ≡ 0 → ⊥) → verdict.Differs n ≡ said_verdict (read n)
differs zero h = absurd (h refl)
differs (suc n) h = refl

-- the three ways of writing
module _ (s : Sheet) (d : List ℕ) (n : ℕ) where
  pub write_long : longest_deck < length d → sheet_write_reply s d n ≡ refused (refusal 20 0)
  unfolding sheet_write_reply
  write_long h = rw (lt-ltb longest_deck (length d) h)

  pub write_short : length d ≤ longest_deck → n < sheet_bytes s → sheet_write_reply s d n ≡ refused (refusal 9 0)
  unfolding sheet_write_reply
  write_short h l = rw (le-ltb longest_deck (length d) h, lt-ltb n (sheet_bytes s) l)

  write_fields : length d ≤ longest_deck → sheet_bytes s ≤ n → sheet_write_reply s d n ≡ fields_reply Composed d
  unfolding sheet_write_reply
  write_fields h l = rw (le-ltb longest_deck (length d) h, le-ltb n (sheet_bytes s) l)

  pub write_told : (x : Read Indices) → length d ≤ longest_deck → sheet_bytes s ≤ n → as_result x ≡ as_result (fields_reply Composed d) → sheet_write_reply s d n ≡ x
  write_told x h l e = write_fields h l ∙ sym (read_back _ _ e) ∙ read_back _ x refl
