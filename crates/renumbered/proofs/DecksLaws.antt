-- Laws. Two decks listed another way: their sheets of either kind have the same fields, either's sheet is accepted behind the other, and any sheet is told the same behind both. Assumes nothing.
use Rattle.std.specs.Prelude.{ℕ, ◌+◌, ◌≤◌, List, ◌++◌, ◌↔◌, ◌≡◌, length, take, drop, Ok}
use Rattle.std.proofs.Common.{sym, ◌∙◌, ap, subst, take-append-drop}
use Rattle.std.proofs.Math.Path.{ap₂}
use native.Mathlib.Omega.{arith}
use borrow.Author.Tests.{le-ltb}
use Rattle.std.proofs.Math.Seq.{take-length}
use Rattle.graph.specs.Graph.{Graph}
use Rattle.reply.specs.Read.{Read, read}
use Rattle.block.specs.Index.{indices_of}
use Rattle.block.specs.declared.Indices.{Indices}
use Rattle.records.specs.Records.{head_bytes, sheet_at}
use Rattle.records.specs.declared.Sheet.{Sheet}
use Rattle.records.specs.declared.Sheet.TheVariants.{Five, Six}
use Rattle.deck.specs.Deck.{longest_deck, Deck, deck_reply}
use Rattle.deck.specs.Molecule.{molecule_of}
use Rattle.deck.specs.Sized.{longest_composed, composed_short, one_molecule}
use Rattle.deck.specs.Followed.{IsSheet, told_behind, ends, same_molecule, followed}
use Rattle.deck.specs.declared.Form.{Form}
use Rattle.deck.specs.declared.Form.TheVariants.{Composed, Judged}
use Rattle.sheets.specs.Sheets.{fields_of, widths, fields_at, sheet_of, claimed_at, sheet_bytes}
use Rattle.sheets.specs.Back.{fields_behind}
use Rattle.compose.specs.Fields.{fields_reply}
use Rattle.judging.specs.Judging.{judge_reply, said_verdict, sheet_write_reply, said_sheet_written, sheet_out}
use Rattle.judging.specs.Headline.{accepted_exactly}
use Rattle.judging.specs.Theorems.{written_accepted}
use Rattle.judging.specs.declared.Verdict.TheVariants.{Accepted}
use Rattle.renumbered.specs.Renumbered.{Renumbered, RelistedDecks}
use Rattle.renumbered.specs.Shorter.{without_sheet, without_molecule, sheet_behind}
use Rattle.renumbered.proofs.Distances.{reversed, same_indices}
use Rattle.renumbered.specs.Decks.{bare_deck}

-- it may be read the other way
abbrev pub exchange : {a b : Form} {c d : List ℕ} → RelistedDecks a b c d → RelistedDecks b a d c
exchange r = record { first = r.second; second = r.first; one = r.two; two = r.one; renumbered = reversed r.renumbered }

-- THE NUMBERS of the two molecules, of which sheets are made
pub deck_indices : {a b : Form} {c d : List ℕ} (r : RelistedDecks a b c d) → indices_of (molecule_of c r.first) ≡ indices_of (molecule_of d r.second)
deck_indices {a} {b} {c} {d} r = same_indices (one_molecule a c r.first r.one) (one_molecule b d r.second r.two) r.renumbered

-- THE SAME SHEET, of either kind
pub same_sheet : {a b : Form} {c d : List ℕ} (r : RelistedDecks a b c d) (kind : Sheet) → sheet_of kind (molecule_of c r.first) ≡ sheet_of kind (molecule_of d r.second)
unfolding sheet_of
same_sheet r kind = ap (fields_of kind) (deck_indices r)

-- so where two groups' decks come with sheets of one kind and are both accepted, they claim the same: that is no luck
pub claims_agree : {c d : List ℕ} (r : RelistedDecks Judged Judged c d) → sheet_at c r.first.sheet ≡ sheet_at d r.second.sheet
    → said_verdict (judge_reply c) ≡ Accepted → said_verdict (judge_reply d) ≡ Accepted → claimed_at c r.first.sheet ≡ claimed_at d r.second.sheet
claims_agree {c} {d} r one p q =
    (accepted_exactly c r.first r.one).0 p
    ∙ ap (λ (kind : Sheet). sheet_of kind (molecule_of c r.first)) one
    ∙ same_sheet r (sheet_at d r.second.sheet)
    ∙ sym ((accepted_exactly d r.second r.two).0 q)

-- a sheet behind a deck is told by its kind, claims what its record says, and is accepted exactly where that is the molecule's
module _ {kind : Sheet} (d : List ℕ) (k : Deck) (e : deck_reply Composed d ≡ read k) (s : List ℕ) (i : IsSheet kind s) where
  pub kind_behind : sheet_at (d ++ s) k.sheet ≡ kind
  kind_behind = ap (sheet_at (d ++ s)) (ends d k e) ∙ told_behind d s i

  pub claimed_behind : claimed_at (d ++ s) k.sheet ≡ fields_at (widths kind) s head_bytes
  unfolding claimed_at
  claimed_behind =
      ap₂ (λ (t : Sheet) (n : ℕ). fields_at (widths t) (d ++ s) (n + head_bytes)) kind_behind (ends d k e) ∙ fields_behind d s (widths kind) head_bytes

  pub behind_exactly : length d + length s ≤ longest_deck → (said_verdict (judge_reply (d ++ s)) ≡ Accepted) ↔ (fields_at (widths kind) s head_bytes ≡ sheet_of kind (molecule_of d k))
  behind_exactly h =
      let there = accepted_exactly (d ++ s) k (followed d k e s i h) in
      let own : sheet_of (sheet_at (d ++ s) k.sheet) (molecule_of (d ++ s) k) ≡ sheet_of kind (molecule_of d k) = ap₂ sheet_of kind_behind (same_molecule d k e s) in
      (λ p. sym claimed_behind ∙ there.0 p ∙ own, λ q. there.1 (claimed_behind ∙ q ∙ sym own))

module _ {c d : List ℕ} (r : RelistedDecks Composed Composed c d) where
  -- composing replies the same, and writing replies the same and writes the same bytes
  pub same_fields : fields_reply Composed c ≡ fields_reply Composed d
  unfolding fields_reply
  same_fields = rw (r.one, r.two) (ap {B = Read Indices} read (deck_indices r))

  pub same_writing : (kind : Sheet) (n : ℕ) → sheet_write_reply kind c n ≡ sheet_write_reply kind d n
  unfolding sheet_write_reply
  same_writing kind n =
      rw (
        le-ltb longest_deck (length c) (omega (arith, composed_short c r.first r.one)),
        le-ltb longest_deck (length d) (omega (arith, composed_short d r.second r.two)),
        same_fields,
      )

  pub same_bytes : (kind : Sheet) (out : List ℕ) → sheet_out kind out (sheet_write_reply kind c (length out)) ≡ sheet_out kind out (sheet_write_reply kind d (length out))
  same_bytes kind out = ap (sheet_out kind out) (same_writing kind (length out))

  -- THE EXCHANGE: the sheet that is written for one deck is accepted behind the other
  behind_other : (kind : Sheet) (out : List ℕ) → sheet_bytes kind ≤ length out
      → said_verdict (judge_reply (d ++ take (sheet_bytes kind) (sheet_out kind out (sheet_write_reply kind c (length out))))) ≡ Accepted
  behind_other kind out n = rw (same_writing kind (length out)) (written_accepted kind d out told)
    where
      told : said_sheet_written (sheet_write_reply kind d (length out)) ≡ Ok tt
      told =
          unfold sheet_write_reply fields_reply in rw (le-ltb longest_deck (length d) (omega (arith, composed_short d r.second r.two)), le-ltb (length out) (sheet_bytes kind) n, r.two)

  -- THE VERDICT on any sheet, of whichever kind, whoever wrote it and whatever it claims, is the same behind either deck
  pub same_verdict : {kind : Sheet} (s : List ℕ) → IsSheet kind s → judge_reply (c ++ s) ≡ judge_reply (d ++ s)
  unfolding judge_reply
  same_verdict {kind} s i =
      rw (
        followed c r.first r.one s i (short kind (composed_short c r.first r.one) i.size),
        followed d r.second r.two s i (short kind (composed_short d r.second r.two) i.size),
        kind_behind c r.first r.one s i,
        kind_behind d r.second r.two s i,
        same_molecule c r.first r.one s,
        same_molecule d r.second r.two s,
        claimed_behind c r.first r.one s i,
        claimed_behind d r.second r.two s i,
        same_sheet r kind,
      )
    where
      short : (kind : Sheet) {m n : ℕ} → m ≤ longest_composed → n ≡ sheet_bytes kind → m + n ≤ longest_deck
      short Five a b = omega arith
      short Six a b = omega arith

-- either way
pub exchanged : {c d : List ℕ} → RelistedDecks Composed Composed c d → (kind : Sheet) (out : List ℕ) → sheet_bytes kind ≤ length out
    → (said_verdict (judge_reply (d ++ take (sheet_bytes kind) (sheet_out kind out (sheet_write_reply kind c (length out))))) ≡ Accepted)
    × (said_verdict (judge_reply (c ++ take (sheet_bytes kind) (sheet_out kind out (sheet_write_reply kind d (length out))))) ≡ Accepted)
exchanged r kind out n = (behind_other r kind out n, behind_other (exchange r) kind out n)

pub bare_composed : (d : List ℕ) (k : Deck) → deck_reply Composed d ≡ read k → bare_deck d k ≡ d
bare_composed d k e = ap (λ (n : ℕ). take n d) (ends d k e) ∙ take-length d

pub bare_composes : (form : Form) (d : List ℕ) (k : Deck) → deck_reply form d ≡ read k → deck_reply Composed (bare_deck d k) ≡ read k
bare_composes Composed d k e = ap (deck_reply Composed) (bare_composed d k e) ∙ e
bare_composes Judged d k e = without_sheet d k e

pub bare_molecule : (form : Form) (d : List ℕ) (k : Deck) → deck_reply form d ≡ read k → molecule_of d k ≡ molecule_of (bare_deck d k) k
bare_molecule Composed d k e = ap (λ (l : List ℕ). molecule_of l k) (sym (bare_composed d k e))
bare_molecule Judged d k e = without_molecule d k e

module _ {a b : Form} {c d : List ℕ} (r : RelistedDecks a b c d) where
  bared : RelistedDecks Composed Composed (bare_deck c r.first) (bare_deck d r.second)
  bared = record {
    first = r.first;
    second = r.second;
    one = bare_composes a c r.first r.one;
    two = bare_composes b d r.second r.two;
    renumbered = subst (λ (h : Graph). Renumbered (molecule_of (bare_deck c r.first) r.first) h) (bare_molecule b d r.second r.two) (subst (λ (g : Graph). Renumbered g (molecule_of d r.second)) (bare_molecule a c r.first r.one) r.renumbered);
  }

  -- THE EXCHANGE IN ANY FORMS: what is written for either deck without its sheet is accepted behind the other without its own
  pub exchanged_bare : (kind : Sheet) (out : List ℕ) → sheet_bytes kind ≤ length out → let x = bare_deck c r.first in let y = bare_deck d r.second in
      (said_verdict (judge_reply (y ++ take (sheet_bytes kind) (sheet_out kind out (sheet_write_reply kind x (length out))))) ≡ Accepted)
      × (said_verdict (judge_reply (x ++ take (sheet_bytes kind) (sheet_out kind out (sheet_write_reply kind y (length out))))) ≡ Accepted)
  exchanged_bare = exchanged bared

-- A GROUP'S OWN SHEET, of a judged deck that is accepted, is accepted behind the other group's deck, whether that came with a sheet or without
pub sheet_exchanged : {b : Form} {c d : List ℕ} (r : RelistedDecks Judged b c d) → said_verdict (judge_reply c) ≡ Accepted
    → said_verdict (judge_reply (bare_deck d r.second ++ drop r.first.sheet c)) ≡ Accepted
sheet_exchanged {b} {c} {d} r p =
    let s = drop r.first.sheet c in
    let whole : bare_deck c r.first ++ s ≡ c = take-append-drop r.first.sheet c in
    ap said_verdict (sym (same_verdict (bared r) s (sheet_behind c r.first r.one).1) ∙ ap judge_reply whole) ∙ p
