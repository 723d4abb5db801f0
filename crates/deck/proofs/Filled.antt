-- A book while the blocks of a deck are read: what one block leaves of it, and what is left to do gives the book. Assumes nothing.
use Prim.Native.Nat.{ℕ, suc, ◌+◌, ◌*◌, ◌-◌, ◌<◌, ◌≤◌}
use mathlib.Core.Bool.{false}
use mathlib.Core.List.{List, [], ◌∷◌, ◌++◌}
use mathlib.Core.Path.{◌≡◌, refl, ◌∙◌, ap}
use borrow.Author.Tests.{eq-eqb, ne_eqb, lt-ltb, le-ltb}
use lib.ListN.{length, take, drop}
use lib.Seq.{sets}
use Rattle.reply.specs.Read.{Read, refused, read}
use Rattle.reply.specs.declared.Refusal.{Refusal}
use Rattle.block.specs.Block.{graph_of, block_reply}
use Rattle.records.specs.Records.{kind_at, end_at, record_reply}
use Rattle.records.specs.declared.Kind.{Kind}
use Rattle.assembly.specs.Book.{bond_bytes}
use Rattle.assembly.specs.declared.BlockAt.{BlockAt}
use Rattle.summary.specs.Layout.{summary_bytes}
use Rattle.summary.specs.Summary.{summary_of}
use Rattle.filling.specs.Reply.{fill_reply, fill_bytes}
use Rattle.filling.proofs.Places.{place_told, place_stays, place_puts}
use Rattle.deck.specs.Deck.{longest_deck, kinds_after, block_at, moved, block_place, block_reply_at}
use Rattle.deck.specs.Filled.{with_block, after_fine, book_from, blocks_book, open_book}
use Rattle.deck.specs.Filling.{filled_book, reply_book}
use Rattle.deck.proofs.Turns.{unfit, number_fit}

-- a block at a place that the book has, and at one that it has not
module _ (d : List ℕ) (c : BlockAt) (b : List ℕ) (i : ℕ) where
  pub no_place : length b < summary_bytes * i + summary_bytes → b ≡ filled_book d b i c
  unfolding filled_book with_block
  no_place h = go (block_reply c.atoms (bond_bytes d c)) refl
    where
      go : (r : Read (Unit {0})) → block_reply c.atoms (bond_bytes d c) ≡ r → b ≡ after_fine r b (λ _. with_block d b i c)
      go (refused q) e = refl
      go (read u) e = rw (lt-ltb (length b) (summary_bytes * i + summary_bytes) h) refl

  module _ (room : summary_bytes * i + summary_bytes ≤ length b) (xs : List ℕ) (e : xs ≡ bond_bytes d c) where
    pub place_reply : fill_reply c.atoms xs (length (take (summary_bytes * i + summary_bytes - summary_bytes * i) (drop (summary_bytes * i) b))) ≡ block_reply c.atoms (bond_bytes d c)
    place_reply = place_told b i room c.number c.atoms xs ∙ ap (block_reply c.atoms) e

    pub place_filled : (new : List ℕ) → new ≡ fill_bytes c.number c.atoms xs (take (summary_bytes * i + summary_bytes - summary_bytes * i) (drop (summary_bytes * i) b))
        → take (summary_bytes * i) b ++ (new ++ drop (summary_bytes * i + summary_bytes - summary_bytes * i) (drop (summary_bytes * i) b)) ≡ filled_book d b i c
    unfolding filled_book with_block
    place_filled new q = go (block_reply c.atoms (bond_bytes d c)) refl
      where
        go : (r : Read (Unit {0})) → block_reply c.atoms (bond_bytes d c) ≡ r
            → take (summary_bytes * i) b ++ (new ++ drop (summary_bytes * i + summary_bytes - summary_bytes * i) (drop (summary_bytes * i) b)) ≡ after_fine r b (λ _. with_block d b i c)
        go (refused p) f = place_stays b i room c.number c.atoms xs new q p (ap (block_reply c.atoms) e ∙ f)
        go (read u) f = rw (le-ltb (length b) (summary_bytes * i + summary_bytes) room) (place_puts b i room c.number c.atoms xs new q (ap (block_reply c.atoms) e ∙ f) ∙ ap (λ (ys : List ℕ). sets b (summary_bytes * i) (summary_of c.number (graph_of c.atoms ys))) e)

-- by the record that has the block
module _ (d : List ℕ) (at : ℕ) (done : List BlockAt) (b : List ℕ) where
  pub reply_stays : (r : Refusal) → block_reply_at d at done ≡ refused r → reply_book d at done b ≡ b
  unfolding reply_book
  reply_stays r e = rw e

  pub reply_puts : block_reply_at d at done ≡ read tt → reply_book d at done b ≡ with_block d b (length done) (block_at d at)
  unfolding reply_book
  reply_puts e = rw e

  pub reply_filled : unfit d at done ≡ false → filled_book d b (length done) (block_at d at) ≡ reply_book d at done b
  unfolding filled_book reply_book
  reply_filled e = rw (number_fit d at done e) (go (block_reply (block_at d at).atoms (bond_bytes d (block_at d at))))
    where
      go : (r : Read (Unit {0})) → after_fine r b (λ _. with_block d b (length done) (block_at d at)) ≡ after_fine (moved (block_place at) r) b (λ _. with_block d b (length done) (block_at d at))
      go (refused p) = refl
      go (read u) = refl

-- a turn of the loop over blocks
module _ (fuel : ℕ) (last : Kind) (d : List ℕ) (at : ℕ) (done : List BlockAt) (b : List ℕ) where
  pub book_no_record : (r : Refusal) → record_reply (kinds_after done last) d at ≡ refused r → book_from (suc fuel) last d at done b ≡ b
  unfolding book_from
  book_no_record r e = rw e

  module _ (e : record_reply (kinds_after done last) d at ≡ read tt) where
    pub book_no_block : (kind_at d at ≡ 1 → ⊥) → book_from (suc fuel) last d at done b ≡ b
    unfolding book_from
    book_no_block k = rw (e, ne_eqb (kind_at d at) 1 k)

    module _ (k : kind_at d at ≡ 1) where
      pub book_bad_block : (r : Refusal) → block_reply_at d at done ≡ refused r → book_from (suc fuel) last d at done b ≡ b
      unfolding book_from
      book_bad_block r f = rw (e, eq-eqb (kind_at d at) 1 k, f)

      pub book_one_block : block_reply_at d at done ≡ read tt → book_from (suc fuel) last d at done b ≡ book_from fuel last d (end_at d at) (done ++ block_at d at ∷ []) (reply_book d at done b)
      unfolding book_from
      book_one_block f = rw (e, eq-eqb (kind_at d at) 1 k, f, reply_puts d at done b f) refl

-- a deck that is too long, and one that is not
module _ (last : Kind) (d b : List ℕ) where
  pub book_long : longest_deck < length d → open_book last d b ≡ b
  unfolding open_book
  book_long h = rw (lt-ltb longest_deck (length d) h)

  pub book_short : length d ≤ longest_deck → open_book last d b ≡ blocks_book last d b
  unfolding open_book
  book_short h = rw (le-ltb longest_deck (length d) h)
