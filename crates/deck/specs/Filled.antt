-- Definitions. A book of summaries that is filled while the blocks of a deck are read: each block that is taken, at the place of its index.
use Rattle.std.specs.Prelude.{ℕ, zero, suc, ◌+◌, ◌*◌, cond, List, [], ◌∷◌, ◌++◌, eqb, ltb, length}
use Rattle.std.proofs.lemmas.List.Edits.{sets}
use Rattle.reply.specs.Read.{Read, refused, read, if_else}
use Rattle.records.specs.Records.{block_kind, kind_at, end_at, record_reply}
use Rattle.records.specs.declared.Kind.{Kind}
use Rattle.assembly.specs.Book.{block_graph, most_blocks}
use Rattle.assembly.specs.declared.BlockAt.{BlockAt}
use Rattle.summary.specs.Layout.{summary_bytes}
use Rattle.summary.specs.Summary.{summary_of}
use Rattle.deck.specs.Deck.{longest_deck, kinds_after, block_at, block_reply_at}

-- a book with the summary of a block at place i, or as it was where it has no such place
unfoldable pub with_block : List ℕ → List ℕ → ℕ → BlockAt → List ℕ
with_block d b i c = cond (ltb (length b) (summary_bytes * i + summary_bytes)) b (sets b (summary_bytes * i) (summary_of c.number (block_graph d c)))

-- the bytes that follow an answer which is fine, and those from before where it is a refusal
abbrev pub after_fine : Read (Unit {0}) → List ℕ → (Unit {0} → List ℕ) → List ℕ
after_fine (refused r) b f = b
after_fine (read u) b f = f tt

-- the book when the blocks from a place on are read, after those of `done`: turn by turn as `blocks_from` does
unfoldable pub book_from : ℕ → Kind → List ℕ → ℕ → List BlockAt → List ℕ → List ℕ
book_from zero last d at done b = b
book_from (suc fuel) last d at done b =
    after_fine (record_reply (kinds_after done last) d at) b λ _.
    if_else (eqb (kind_at d at) block_kind.number)
    (λ _. after_fine (block_reply_at d at done) b λ _. book_from fuel last d (end_at d at) (done ++ block_at d at ∷ []) (with_block d b (length done) (block_at d at)))
    (λ _. b)

unfoldable pub blocks_book : Kind → List ℕ → List ℕ → List ℕ
blocks_book last d b = book_from (suc most_blocks) last d 0 [] b

-- a deck that is too long fills nothing
unfoldable pub open_book : Kind → List ℕ → List ℕ → List ℕ
open_book last d b = cond (ltb longest_deck (length d)) b (blocks_book last d b)
