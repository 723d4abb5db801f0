use Prim.Native.Nat.{ℕ, suc, ◌+◌, ◌-◌, ◌<◌, ◌≤◌}
use mathlib.Core.Bool.{cond}
use mathlib.Core.List.{List, [], ◌∷◌}
use mathlib.Core.Path.{◌≡◌, refl, sym, ap, ◌∙◌}
use native.Mathlib.Omega.{arith}
use lib.Dec.{eqb}
use lib.ListN.{length, take, length-set}
use lib.Seq.{length-take-le}
use Rattle.reply.specs.Read.{read, as_result}
use Rattle.reply.specs.Chain.{fine_read, refused_read}
use Rattle.records.specs.Records.{block_kind, kind_at, end_at, record_reply}
use Rattle.records.specs.Taken.{taken}
use Rattle.records.specs.declared.Kind.{Kind}
use Rattle.assembly.specs.Book.{most_blocks}
use Rattle.assembly.specs.declared.BlockAt.{BlockAt}
use Rattle.deck.specs.Deck.{kinds_after, block_reply_at, blocks_from, blocks_reply}
use Rattle.deck.specs.Filled.{book_from, blocks_book}
use Rattle.deck.specs.Said.{refused_deck, said_deck}
use Rattle.deck.specs.Kept.{fit}
use Rattle.deck.proofs.Turns.{second, no_record, no_block_lem, bad_block, one_block, said, table_is, table_grows, table_next}
use Rattle.deck.proofs.Filled.{reply_stays, book_no_record, book_no_block, book_bad_block, book_one_block}
use Rattle.compose.proofs.blocks.read_blocks.Goals as goal
use Rattle.compose.proofs.blocks.read_blocks.Goals.{After-block_reply-s, After-record_at-r, At-loop-blocks, Else-le16_at, In-Ok, In-Ok-s}

-- the blocks so far
abbrev done : At-loop-blocks → List BlockAt
done l = take l.loop-blocks.count l.loop-blocks.blocks

abbrev done-in-After-record_at-r : After-record_at-r → List BlockAt
done-in-After-record_at-r l = take l.loop-blocks.count l.loop-blocks.blocks

abbrev done-in-In-Ok : In-Ok → List BlockAt
done-in-In-Ok l = take l.loop-blocks.count l.loop-blocks.blocks

abbrev done-in-After-block_reply-s : After-block_reply-s → List BlockAt
done-in-After-block_reply-s l = take l.loop-blocks.count l.loop-blocks.blocks

abbrev done-in-In-Ok-s : In-Ok-s → List BlockAt
done-in-In-Ok-s l = take l.loop-blocks.count l.loop-blocks.blocks

abbrev deck : At-loop-blocks → List ℕ
deck l = l.args.d.now

abbrev deck-in-After-record_at-r : After-record_at-r → List ℕ
deck-in-After-record_at-r l = l.args.d.now

abbrev deck-in-In-Ok : In-Ok → List ℕ
deck-in-In-Ok l = l.args.d.now

abbrev deck-in-Else-le16_at : Else-le16_at → List ℕ
deck-in-Else-le16_at l = l.args.d.now

abbrev deck-in-After-block_reply-s : After-block_reply-s → List ℕ
deck-in-After-block_reply-s l = l.args.d.now

abbrev deck-in-In-Ok-s : In-Ok-s → List ℕ
deck-in-In-Ok-s l = l.args.d.now

abbrev last : At-loop-blocks → Kind
last l = l.args.last

abbrev last-in-After-record_at-r : After-record_at-r → Kind
last-in-After-record_at-r l = l.args.last

abbrev last-in-In-Ok : In-Ok → Kind
last-in-In-Ok l = l.args.last

counted : (l : At-loop-blocks) → length (done l) ≡ l.loop-blocks.count
counted l = length-take-le l.loop-blocks.count l.loop-blocks.blocks (omega arith)

counted-in-After-record_at-r : (l : After-record_at-r) → length (done-in-After-record_at-r l) ≡ l.loop-blocks.count
counted-in-After-record_at-r l = length-take-le l.loop-blocks.count l.loop-blocks.blocks (omega arith)

counted-in-In-Ok : (l : In-Ok) → length (done-in-In-Ok l) ≡ l.loop-blocks.count
counted-in-In-Ok l = length-take-le l.loop-blocks.count l.loop-blocks.blocks (omega arith)

counted-in-In-Ok-s : (l : In-Ok-s) → length (done-in-In-Ok-s l) ≡ l.loop-blocks.count
counted-in-In-Ok-s l = length-take-le l.loop-blocks.count l.loop-blocks.blocks (omega arith)

-- what is left to do, one turn at least
left : (l : At-loop-blocks) → blocks_reply (last l) (deck l) ≡ blocks_from (suc (most_blocks - l.loop-blocks.count)) (last l) (deck l) l.loop-blocks.next (done l)
left l =
    let e : suc most_blocks - l.loop-blocks.count ≡ suc (most_blocks - l.loop-blocks.count) = omega arith in
    l.loop-blocks.invariant.3 ∙ ap (λ (k : ℕ). blocks_from k (last l) (deck l) l.loop-blocks.next (done l)) e

book-left : (l : At-loop-blocks)
    → blocks_book (last l) (deck l) l.args.book.now ≡ book_from (suc (most_blocks - l.loop-blocks.count)) (last l) (deck l) l.loop-blocks.next (done l) l.loop-blocks.book
book-left l =
    let e : suc most_blocks - l.loop-blocks.count ≡ suc (most_blocks - l.loop-blocks.count) = omega arith in
    l.loop-blocks.invariant.6 ∙ ap (λ (k : ℕ). book_from k (last l) (deck l) l.loop-blocks.next (done l) l.loop-blocks.book) e

-- what the record is told
record_is : (c : After-record_at-r) → c.record_at-r.result ≡ as_result (record_reply (kinds_after (done-in-After-record_at-r c) (last-in-After-record_at-r c)) (deck-in-After-record_at-r c) c.loop-blocks.next)
record_is c = c.record_at-r.ensures
    ∙ ap (λ (k : Kind). as_result (record_reply (block_kind ∷ k ∷ []) (deck-in-After-record_at-r c) c.loop-blocks.next)) (c.second_kind.ensures ∙ ap (λ (n : ℕ). cond (eqb n 0) block_kind (last-in-After-record_at-r c)) (sym (counted-in-After-record_at-r c)))
    ∙ ap as_result (second (done-in-After-record_at-r c) (last-in-After-record_at-r c) (deck-in-After-record_at-r c) c.loop-blocks.next)

record_is-in-In-Ok : (c : In-Ok) → c.record_at-r.result ≡ as_result (record_reply (kinds_after (done-in-In-Ok c) (last-in-In-Ok c)) (deck-in-In-Ok c) c.loop-blocks.next)
record_is-in-In-Ok c = c.record_at-r.ensures
    ∙ ap (λ (k : Kind). as_result (record_reply (block_kind ∷ k ∷ []) (deck-in-In-Ok c) c.loop-blocks.next)) (c.second_kind.ensures ∙ ap (λ (n : ℕ). cond (eqb n 0) block_kind (last-in-In-Ok c)) (sym (counted-in-In-Ok c)))
    ∙ ap as_result (second (done-in-In-Ok c) (last-in-In-Ok c) (deck-in-In-Ok c) c.loop-blocks.next)

record-fine : (c : In-Ok) → record_reply (kinds_after (done-in-In-Ok c) (last-in-In-Ok c)) (deck-in-In-Ok c) c.loop-blocks.next ≡ read tt
record-fine c = fine_read _ (sym (record_is-in-In-Ok c) ∙ c.in-Ok.is)

record-whole : (c : In-Ok) → end_at (deck-in-In-Ok c) c.loop-blocks.next ≤ length (deck-in-In-Ok c)
record-whole c = (taken (deck-in-In-Ok c) c.loop-blocks.next (kinds_after (done-in-In-Ok c) (last-in-In-Ok c)) (record-fine c)).whole

-- it is a block
is_block : (c : Else-le16_at) → kind_at (deck-in-Else-le16_at c) c.loop-blocks.next ≡ 1
is_block c = sym c.le16_at.ensures ∙ c.if-le16_at.false

block-is : (c : After-block_reply-s) → c.block_reply-s.result ≡ as_result (block_reply_at (deck-in-After-block_reply-s c) c.loop-blocks.next (done-in-After-block_reply-s c))
block-is c = c.block_reply-s.ensures.reply

block-is-in-In-Ok-s : (c : In-Ok-s) → c.block_reply-s.result ≡ as_result (block_reply_at (deck-in-In-Ok-s c) c.loop-blocks.next (done-in-In-Ok-s c))
block-is-in-In-Ok-s c = c.block_reply-s.ensures.reply

block-fine : (c : In-Ok-s) → block_reply_at (deck-in-In-Ok-s c) c.loop-blocks.next (done-in-In-Ok-s c) ≡ read tt
block-fine c = fine_read _ (sym (block-is-in-In-Ok-s c) ∙ c.in-Ok-s.is)

room : (c : In-Ok-s) → c.loop-blocks.count < most_blocks
room c = omega (arith, counted-in-In-Ok-s c, (fit (deck-in-In-Ok-s c) c.loop-blocks.next (done-in-In-Ok-s c) (block-fine c)).room)

pub loop-blocks-init : goal.loop-blocks-init
unfolding blocks_reply blocks_book
loop-blocks-init c = (omega arith, omega arith, refl, refl, refl, refl, refl)

pub shape_of-book-in_default : goal.shape_of-book-in_default
shape_of-book-in_default c = c.loop-blocks.invariant.5

pub returns-in_default : goal.returns-in_default
returns-in_default c = let k = most_blocks - c.loop-blocks.count in
    let e = refused_read _ c.in_default.field-0 (sym (record_is (goal.at.returns-in_default c).After-record_at-r) ∙ c.in_default.is) in record { reply = c.deck_refused.ensures ∙ ap refused_deck c.in_default.is ∙ ap said_deck (sym (left (goal.at.returns-in_default c).At-loop-blocks ∙ no_record k (last (goal.at.returns-in_default c).At-loop-blocks) (deck (goal.at.returns-in_default c).At-loop-blocks) c.loop-blocks.next (done (goal.at.returns-in_default c).At-loop-blocks) c.in_default.field-0 e)); bytes = sym (book-left (goal.at.returns-in_default c).At-loop-blocks ∙ book_no_record k (last (goal.at.returns-in_default c).At-loop-blocks) (deck (goal.at.returns-in_default c).At-loop-blocks) c.loop-blocks.next (done (goal.at.returns-in_default c).At-loop-blocks) c.loop-blocks.book c.in_default.field-0 e) }

pub deck_at-requires : goal.deck_at-requires
deck_at-requires c = c.loop-blocks.invariant.0

pub shape_of-book-then-le16_at : goal.shape_of-book-then-le16_at
shape_of-book-then-le16_at c = c.loop-blocks.invariant.5

pub returns-then-le16_at : goal.returns-then-le16_at
returns-then-le16_at c = let t = table_is c.loop-blocks.blocks c.loop-blocks.count (omega arith) c.loop-blocks.invariant.4 in
    let k : (kind_at (deck (goal.at.returns-then-le16_at c).At-loop-blocks) c.loop-blocks.next ≡ 1 → ⊥) = λ e. c.if-le16_at.true (c.le16_at.ensures ∙ e) in
    let f = record-fine (goal.at.returns-then-le16_at c).In-Ok in record {
      reply = c.deck_at.ensures
          ∙ said (deck (goal.at.returns-then-le16_at c).At-loop-blocks) c.loop-blocks.blocks (done (goal.at.returns-then-le16_at c).At-loop-blocks) c.loop-blocks.count c.loop-blocks.next t (sym (counted (goal.at.returns-then-le16_at c).At-loop-blocks))
          ∙ ap said_deck (sym (left (goal.at.returns-then-le16_at c).At-loop-blocks ∙ no_block_lem (most_blocks - c.loop-blocks.count) (last (goal.at.returns-then-le16_at c).At-loop-blocks) (deck (goal.at.returns-then-le16_at c).At-loop-blocks) c.loop-blocks.next (done (goal.at.returns-then-le16_at c).At-loop-blocks) f k));
      bytes = sym (book-left (goal.at.returns-then-le16_at c).At-loop-blocks ∙ book_no_block (most_blocks - c.loop-blocks.count) (last (goal.at.returns-then-le16_at c).At-loop-blocks) (deck (goal.at.returns-then-le16_at c).At-loop-blocks) c.loop-blocks.next (done (goal.at.returns-then-le16_at c).At-loop-blocks) c.loop-blocks.book f k);
    }

pub block_at-b-requires : goal.block_at-b-requires
block_at-b-requires c = omega (arith, c.loop-blocks.invariant.0, c.requires)

pub block_reply-s-requires : goal.block_reply-s-requires
block_reply-s-requires c = let short = c.requires in
    (c.loop-blocks.invariant.1, c.block_at-b.ensures, omega (arith, c.loop-blocks.invariant.0, short), short)

pub shape_of-book-in_default-s : goal.shape_of-book-in_default-s
shape_of-book-in_default-s c = c.book-1.given ∙ c.loop-blocks.invariant.5

pub returns-in_default-s : goal.returns-in_default-s
returns-in_default-s c = let k = most_blocks - c.loop-blocks.count in
    let e = refused_read _ c.in_default-s.field-0 (sym (block-is (goal.at.returns-in_default-s c).After-block_reply-s) ∙ c.in_default-s.is) in
    let f = record-fine (goal.at.returns-in_default-s c).In-Ok in
    let g = is_block (goal.at.returns-in_default-s c).Else-le16_at in record {
      reply = c.deck_refused-in_default-s.ensures
          ∙ ap refused_deck c.in_default-s.is
          ∙ ap said_deck (sym (left (goal.at.returns-in_default-s c).At-loop-blocks ∙ bad_block k (last (goal.at.returns-in_default-s c).At-loop-blocks) (deck (goal.at.returns-in_default-s c).At-loop-blocks) c.loop-blocks.next (done (goal.at.returns-in_default-s c).At-loop-blocks) f g c.in_default-s.field-0 e));
      bytes = c.block_reply-s.ensures.bytes
          ∙ reply_stays (deck (goal.at.returns-in_default-s c).At-loop-blocks) c.loop-blocks.next (done (goal.at.returns-in_default-s c).At-loop-blocks) c.loop-blocks.book c.in_default-s.field-0 e
          ∙ sym (book-left (goal.at.returns-in_default-s c).At-loop-blocks ∙ book_bad_block k (last (goal.at.returns-in_default-s c).At-loop-blocks) (deck (goal.at.returns-in_default-s c).At-loop-blocks) c.loop-blocks.next (done (goal.at.returns-in_default-s c).At-loop-blocks) c.loop-blocks.book f g c.in_default-s.field-0 e);
    }

pub bounds-blocks-count : goal.bounds-blocks-count
bounds-blocks-count c = room (goal.at.bounds-blocks-count c).In-Ok-s

pub overflow_add-next-in-loop-blocks-2 : goal.overflow_add-next-in-loop-blocks-2
overflow_add-next-in-loop-blocks-2 c = omega (arith, c.le16_at-in-loop-blocks.ensures, record-whole (goal.at.overflow_add-next-in-loop-blocks-2 c).In-Ok)

pub loop-blocks-preserved : goal.loop-blocks-preserved
loop-blocks-preserved c = let k = c.loop-blocks.count in
    let b = c.block_at-b in
    let f = record-fine (goal.at.loop-blocks-preserved c).In-Ok in
    let g = is_block (goal.at.loop-blocks-preserved c).Else-le16_at in
    let h = block-fine (goal.at.loop-blocks-preserved c).In-Ok-s in
    let free = room (goal.at.loop-blocks-preserved c).In-Ok-s in
    let m : suc most_blocks - (k + 1) ≡ most_blocks - k = omega arith in (
      omega (arith, c.le16_at-in-loop-blocks.ensures, record-whole (goal.at.loop-blocks-preserved c).In-Ok),
      omega arith,
      simp length-set c.loop-blocks.invariant.2,
      rw (m, table_grows c.loop-blocks.blocks k b.result (omega arith), b.ensures, c.le16_at-in-loop-blocks.ensures) (left (goal.at.loop-blocks-preserved c).At-loop-blocks ∙ one_block (most_blocks - k) (last (goal.at.loop-blocks-preserved c).At-loop-blocks) (deck (goal.at.loop-blocks-preserved c).At-loop-blocks) c.loop-blocks.next (done (goal.at.loop-blocks-preserved c).At-loop-blocks) f g h),
      table_next c.loop-blocks.blocks k b.result c.loop-blocks.invariant.4,
      c.book-1.given ∙ c.loop-blocks.invariant.5,
      rw (m, table_grows c.loop-blocks.blocks k b.result (omega arith), b.ensures, c.le16_at-in-loop-blocks.ensures, c.block_reply-s.ensures.bytes)
          (book-left (goal.at.loop-blocks-preserved c).At-loop-blocks ∙ book_one_block (most_blocks - k) (last (goal.at.loop-blocks-preserved c).At-loop-blocks) (deck (goal.at.loop-blocks-preserved c).At-loop-blocks) c.loop-blocks.next (done (goal.at.loop-blocks-preserved c).At-loop-blocks) c.loop-blocks.book f g h),
    )
