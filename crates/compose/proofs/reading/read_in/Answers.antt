use Prim.Native.Nat.{ℕ}
use mathlib.Core.List.{List, [], ◌∷◌}
use mathlib.Core.Path.{◌≡◌, sym, ap, ◌∙◌}
use native.Mathlib.Omega.{arith}
use Rattle.reply.specs.Read.{Read, read, as_result}
use Rattle.reply.specs.Chain.{fine_read, refused_read}
use Rattle.records.specs.Records.{payload_at, assembly_kind}
use Rattle.records.specs.Taken.{taken}
use Rattle.assembly.specs.Book.{book_of}
use Rattle.assembly.specs.Placements.{shelf_reply}
use Rattle.shelf.specs.Shelf.{shelf_in}
use Rattle.summaries.specs.Written.{HonestBook}
use Rattle.deck.specs.Deck.{Deck, moved, placement_place, open_reply, assembly_reply_at, sheet_reply}
use Rattle.deck.specs.Filled.{open_book}
use Rattle.deck.specs.Said.{refused_deck, said_deck}
use Rattle.deck.specs.Kept.{kept, open_read}
use Rattle.deck.specs.declared.DeckRead.{DeckRead}
use Rattle.deck.proofs.Parts.{bad_blocks, bad_assembly, bad_sheet, whole_deck, deck_ended, deck_stopped}
use Rattle.deck.proofs.Few.{few_heads}
use Rattle.deck.proofs.Filled.{book_short}
use Rattle.deck.proofs.Honest.{honest_read, same_refusals}
use Rattle.compose.proofs.reading.read_in.Goals as goal
use Rattle.compose.proofs.reading.read_in.Goals.{After-assembly_reply-a, After-sheet_reply-s, In-Ok, In-Ok-a, Start}

-- `compose::reading::read_in` meets its contract. Assumes nothing.
abbrev deck : Start → List ℕ
deck s = s.args.d.now

abbrev deck-in-In-Ok : In-Ok → List ℕ
deck-in-In-Ok s = s.args.d.now

abbrev deck-in-After-assembly_reply-a : After-assembly_reply-a → List ℕ
deck-in-After-assembly_reply-a s = s.args.d.now

abbrev deck-in-In-Ok-a : In-Ok-a → List ℕ
deck-in-In-Ok-a s = s.args.d.now

abbrev deck-in-After-sheet_reply-s : After-sheet_reply-s → List ℕ
deck-in-After-sheet_reply-s s = s.args.d.now

-- the blocks, read
abbrev blocks : (c : In-Ok) → let d = deck-in-In-Ok c in (k : Deck) × (open_reply assembly_kind d ≡ read k) × (c.open_deck-k.result ≡ said_deck (read k))
blocks c = let r = c.open_deck-k in deck_ended (open_reply assembly_kind (deck-in-In-Ok c)) r.result r.ensures.reply c.in-Ok.is

abbrev blocks-in-After-assembly_reply-a : (c : After-assembly_reply-a) → let d = deck-in-After-assembly_reply-a c in (k : Deck) × (open_reply assembly_kind d ≡ read k) × (c.open_deck-k.result ≡ said_deck (read k))
blocks-in-After-assembly_reply-a c = let r = c.open_deck-k in deck_ended (open_reply assembly_kind (deck-in-After-assembly_reply-a c)) r.result r.ensures.reply c.in-Ok.is

abbrev blocks-in-In-Ok-a : (c : In-Ok-a) → let d = deck-in-In-Ok-a c in (k : Deck) × (open_reply assembly_kind d ≡ read k) × (c.open_deck-k.result ≡ said_deck (read k))
blocks-in-In-Ok-a c = let r = c.open_deck-k in deck_ended (open_reply assembly_kind (deck-in-In-Ok-a c)) r.result r.ensures.reply c.in-Ok.is

abbrev blocks-in-After-sheet_reply-s : (c : After-sheet_reply-s) → let d = deck-in-After-sheet_reply-s c in (k : Deck) × (open_reply assembly_kind d ≡ read k) × (c.open_deck-k.result ≡ said_deck (read k))
blocks-in-After-sheet_reply-s c = let r = c.open_deck-k in deck_ended (open_reply assembly_kind (deck-in-After-sheet_reply-s c)) r.result r.ensures.reply c.in-Ok.is

filled : (c : In-Ok) → c.open_deck-k.new.book ≡ open_book assembly_kind (deck-in-In-Ok c) c.args.book.now
filled c = c.open_deck-k.ensures.bytes

-- and their book
book : (c : In-Ok) → HonestBook c.open_deck-k.new.book (book_of (deck-in-In-Ok c) (blocks c).0.blocks)
book c =
    let d = deck-in-In-Ok c in
    let (k, e, r) = blocks c in
    let (short, f) = open_read assembly_kind d e in
    honest_read assembly_kind d (λ i. omega (arith, c.type_inv.d i)) c.args.book.now _ (omega (arith, few_heads assembly_kind d f, c.requires.room)) c.requires.none f
    (c.open_deck-k.ensures.bytes ∙ book_short assembly_kind d c.args.book.now short) c.book-1.given

book-in-After-assembly_reply-a : (c : After-assembly_reply-a) → HonestBook c.open_deck-k.new.book (book_of (deck-in-After-assembly_reply-a c) (blocks-in-After-assembly_reply-a c).0.blocks)
book-in-After-assembly_reply-a c =
    let d = deck-in-After-assembly_reply-a c in
    let (k, e, r) = blocks-in-After-assembly_reply-a c in
    let (short, f) = open_read assembly_kind d e in
    honest_read assembly_kind d (λ i. omega (arith, c.type_inv.d i)) c.args.book.now _ (omega (arith, few_heads assembly_kind d f, c.requires.room)) c.requires.none f
    (c.open_deck-k.ensures.bytes ∙ book_short assembly_kind d c.args.book.now short) c.book-1.given

book-in-In-Ok-a : (c : In-Ok-a) → HonestBook c.open_deck-k.new.book (book_of (deck-in-In-Ok-a c) (blocks-in-In-Ok-a c).0.blocks)
book-in-In-Ok-a c =
    let d = deck-in-In-Ok-a c in
    let (k, e, r) = blocks-in-In-Ok-a c in
    let (short, f) = open_read assembly_kind d e in
    honest_read assembly_kind d (λ i. omega (arith, c.type_inv.d i)) c.args.book.now _ (omega (arith, few_heads assembly_kind d f, c.requires.room)) c.requires.none f
    (c.open_deck-k.ensures.bytes ∙ book_short assembly_kind d c.args.book.now short) c.book-1.given

assembly-is : (c : After-assembly_reply-a) → let k = (blocks-in-After-assembly_reply-a c).0 in c.assembly_reply-a.result ≡ as_result (assembly_reply_at (deck-in-After-assembly_reply-a c) k.blocks k.assembly)
unfolding assembly_reply_at
assembly-is c =
    let d = deck-in-After-assembly_reply-a c in
    let (k, e, r) = blocks-in-After-assembly_reply-a c in
    c.assembly_reply-a.ensures
    ∙ ap (λ (x : DeckRead). as_result (moved (placement_place x.layout.assembly) (shelf_reply (shelf_in c.open_deck-k.new.book) (payload_at d x.layout.assembly)))) r
    ∙ ap (λ (x : Read (Unit {0})). as_result (moved (placement_place k.assembly) x)) (same_refusals c.open_deck-k.new.book (book_of d k.blocks) (payload_at d k.assembly) (book-in-After-assembly_reply-a c))

assembly-is-in-In-Ok-a : (c : In-Ok-a) → let k = (blocks-in-In-Ok-a c).0 in c.assembly_reply-a.result ≡ as_result (assembly_reply_at (deck-in-In-Ok-a c) k.blocks k.assembly)
unfolding assembly_reply_at
assembly-is-in-In-Ok-a c =
    let d = deck-in-In-Ok-a c in
    let (k, e, r) = blocks-in-In-Ok-a c in
    c.assembly_reply-a.ensures
    ∙ ap (λ (x : DeckRead). as_result (moved (placement_place x.layout.assembly) (shelf_reply (shelf_in c.open_deck-k.new.book) (payload_at d x.layout.assembly)))) r
    ∙ ap (λ (x : Read (Unit {0})). as_result (moved (placement_place k.assembly) x)) (same_refusals c.open_deck-k.new.book (book_of d k.blocks) (payload_at d k.assembly) (book-in-In-Ok-a c))

assembly-fine : (c : In-Ok-a) → let k = (blocks-in-In-Ok-a c).0 in assembly_reply_at (deck-in-In-Ok-a c) k.blocks k.assembly ≡ read tt
assembly-fine c = fine_read _ (sym (assembly-is-in-In-Ok-a c) ∙ c.in-Ok-a.is)

sheet-is : (c : After-sheet_reply-s) → let k = (blocks-in-After-sheet_reply-s c).0 in c.sheet_reply-s.result ≡ as_result (sheet_reply c.args.form (deck-in-After-sheet_reply-s c) k.sheet)
sheet-is c =
    let (k, e, r) = blocks-in-After-sheet_reply-s c in
    c.sheet_reply-s.ensures ∙ ap (λ (x : DeckRead). as_result (sheet_reply c.args.form (deck-in-After-sheet_reply-s c) x.layout.sheet)) r

pub returns-in_default : goal.returns-in_default
returns-in_default c = let r = c.open_deck-k in
    let e = deck_stopped (open_reply assembly_kind (deck (goal.at.returns-in_default c).Start)) r.result c.in_default.field-0 r.ensures.reply c.in_default.is in
    record { reply = r.ensures.reply ∙ ap said_deck (e ∙ sym (bad_blocks c.args.form (deck (goal.at.returns-in_default c).Start) c.in_default.field-0 e)); bytes = r.ensures.bytes }

pub assembly_reply-a-requires : goal.assembly_reply-a-requires
assembly_reply-a-requires c = let (k, e, r) = blocks (goal.at.assembly_reply-a-requires c).In-Ok in
    let d = deck (goal.at.assembly_reply-a-requires c).Start in
    let (short, f) = open_read assembly_kind d e in
    omega (arith, short, (taken d k.assembly (assembly_kind ∷ []) (kept assembly_kind d f).after).whole, ap (λ (x : DeckRead). x.layout.assembly) r)

pub returns-in_default-a : goal.returns-in_default-a
returns-in_default-a c = let (k, e, r) = blocks (goal.at.returns-in_default-a c).In-Ok in
    let f = refused_read _ c.in_default-a.field-0 (sym (assembly-is (goal.at.returns-in_default-a c).After-assembly_reply-a) ∙ c.in_default-a.is) in
    record { reply = c.deck_refused.ensures ∙ ap refused_deck c.in_default-a.is ∙ ap said_deck (sym (bad_assembly c.args.form (deck (goal.at.returns-in_default-a c).Start) k e c.in_default-a.field-0 f)); bytes = filled (goal.at.returns-in_default-a c).In-Ok }

pub returns-in_default-s : goal.returns-in_default-s
returns-in_default-s c = let (k, e, r) = blocks (goal.at.returns-in_default-s c).In-Ok in
    let f = refused_read _ c.in_default-s.field-0 (sym (sheet-is (goal.at.returns-in_default-s c).After-sheet_reply-s) ∙ c.in_default-s.is) in
    record { reply = c.deck_refused-in_default-s.ensures ∙ ap refused_deck c.in_default-s.is ∙ ap said_deck (sym (bad_sheet c.args.form (deck (goal.at.returns-in_default-s c).Start) k e (assembly-fine (goal.at.returns-in_default-s c).In-Ok-a) c.in_default-s.field-0 f)); bytes = filled (goal.at.returns-in_default-s c).In-Ok }

pub returns : goal.returns
returns c = let (k, e, r) = blocks (goal.at.returns c).In-Ok in
    let f = fine_read _ (sym (sheet-is (goal.at.returns c).After-sheet_reply-s) ∙ c.in-Ok-s.is) in
    record { reply = r ∙ ap said_deck (sym (whole_deck c.args.form (deck (goal.at.returns c).Start) k e (assembly-fine (goal.at.returns c).In-Ok-a) f)); bytes = filled (goal.at.returns c).In-Ok }
