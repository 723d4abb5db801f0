use Prim.Native.Nat.{ℕ}
use mathlib.Core.List.{[], ◌∷◌}
use mathlib.Core.Path.{◌≡◌, ◌∙◌, ap}
use native.Mathlib.Omega.{arith}
use Rattle.std.proofs.lemmas.Result.{err_from_is_err_and}
use Rattle.reply.specs.Read.{read, refused, refusal, as_result}
use Rattle.records.specs.Records.{payload_at, assembly_kind}
use Rattle.records.specs.Taken.{taken}
use Rattle.assembly.specs.Book.{book_of}
use Rattle.assembly.proofs.Faults.{place_few}
use Rattle.deck.specs.Deck.{Deck, placement_place, open_reply}
use Rattle.deck.specs.Kept.{kept, open_read}
use Rattle.deck.specs.Said.{said_deck}
use Rattle.deck.specs.declared.DeckRead.{DeckRead}
use Rattle.deck.proofs.Parts.{deck_stopped, deck_ended, bad_blocks}
use Rattle.deck.proofs.Filled.{book_short}
use Rattle.deck.proofs.Honest.{honest_read}
use Rattle.summaries.specs.Written.{HonestBook}
use Rattle.compose.specs.Fields.{behind_reply}
use Rattle.deck.proofs.Few.{few_heads}
use Rattle.compose.proofs.Replies.{fields_refused, is_refused, placed_badly, placed_well}
use Rattle.compose.proofs.in_book.Goals as goal
use Rattle.compose.proofs.in_book.Goals.{After-compose, In_ok-k}

-- `compose::in_book` meets its contract. Assumes nothing.
-- the blocks that are read
abbrev blocks : (c : In_ok-k) → (k : Deck) × (open_reply assembly_kind c.args.d.now ≡ read k) × (c.open_deck-k.result ≡ said_deck (read k))
blocks c = let r = c.open_deck-k in deck_ended (open_reply assembly_kind c.args.d.now) r.result r.ensures.reply c.in_ok-k.was

abbrev blocks-in-After-compose : (c : After-compose) → (k : Deck) × (open_reply assembly_kind c.args.d.now ≡ read k) × (c.open_deck-k.result ≡ said_deck (read k))
blocks-in-After-compose c = let r = c.open_deck-k in deck_ended (open_reply assembly_kind c.args.d.now) r.result r.ensures.reply c.in_ok-k.was

-- the book that is filled
book : (c : In_ok-k) → HonestBook c.open_deck-k.new.book (book_of c.args.d.now (blocks c).0.blocks)
book c =
    let d = c.args.d.now in
    let (k, e, r) = blocks c in
    let (short, f) = open_read assembly_kind d e in
    honest_read assembly_kind d (λ i. omega (arith, c.type_inv.d i)) c.args.book.now _ (omega (arith, few_heads assembly_kind d f, c.requires.room)) c.requires.none f (c.open_deck-k.ensures.bytes ∙ book_short assembly_kind d c.args.book.now short) c.book-1.given

pub returns-in_err-k : goal.returns-in_err-k
returns-in_err-k c =
    let o = c.open_deck-k in
    let p = err_from_is_err_and c.from_residual.result c.from_residual.ensures.1 in
    rw (p.1, p.2) (fields_refused c.args.form c.args.d.now _ (bad_blocks c.args.form c.args.d.now _ (deck_stopped _ o.result _ o.ensures.reply c.in_err-k.was)))

-- where the assembly stands
at-is : (c : In_ok-k) → c.open_deck-k.result.layout.assembly ≡ (blocks c).0.assembly
at-is c = ap (λ (x : DeckRead). x.layout.assembly) (blocks c).2

at-is-in-After-compose : (c : After-compose) → c.open_deck-k.result.layout.assembly ≡ (blocks-in-After-compose c).0.assembly
at-is-in-After-compose c = ap (λ (x : DeckRead). x.layout.assembly) (blocks-in-After-compose c).2

payload-is : (c : After-compose) → c.payload_at.result.now ≡ payload_at c.args.d.now (blocks-in-After-compose c).0.assembly
payload-is c = c.payload_at.ensures.bytes ∙ ap (payload_at c.args.d.now) (at-is-in-After-compose c)

pub refused_at-requires : goal.refused_at-requires
refused_at-requires c =
    let d = c.args.d.now in
    let (k, e, r) = blocks (goal.at.refused_at-requires c).In_ok-k in
    let (short, f) = open_read assembly_kind d e in (
      omega (arith, short, at-is (goal.at.refused_at-requires c).In_ok-k, (taken d k.assembly (assembly_kind ∷ []) (kept assembly_kind d f).after).whole),
      place_few (book_of d k.blocks) (payload_at d k.assembly) c.in-Err.refusal (is_refused c.args.form d k e _ _ (book (goal.at.refused_at-requires c).In_ok-k) (payload-is (goal.at.refused_at-requires c).After-compose) _ c.compose.ensures c.in-Err.refusal c.in-Err.is),
    )

pub returns-in-Err : goal.returns-in-Err
returns-in-Err c =
    let d = c.args.d.now in
    let (k, e, r) = blocks (goal.at.returns-in-Err c).In_ok-k in
    c.refused_at.ensures
    ∙ ap (λ (at : ℕ). as_result (refused (refusal c.in-Err.refusal.number (placement_place at c.in-Err.refusal)))) (at-is (goal.at.returns-in-Err c).In_ok-k)
    ∙ placed_badly c.args.form d k e _ _ (book (goal.at.returns-in-Err c).In_ok-k) (payload-is (goal.at.returns-in-Err c).After-compose) _ c.compose.ensures c.in-Err.refusal c.in-Err.is

pub returns-in-Ok : goal.returns-in-Ok
returns-in-Ok c =
    let d = c.args.d.now in
    let (k, e, r) = blocks (goal.at.returns-in-Ok c).In_ok-k in
    c.behind.ensures
    ∙ ap (λ (x : DeckRead). as_result (behind_reply c.args.form d c.in-Ok.fields x.layout.sheet)) r
    ∙ placed_well c.args.form d k e _ _ (book (goal.at.returns-in-Ok c).In_ok-k) (payload-is (goal.at.returns-in-Ok c).After-compose) _ c.compose.ensures c.in-Ok.fields c.in-Ok.is
