-- Laws. The first block of a deck, and a book of one place that is lent while its blocks are read: that block is filled in, and no other. Assumes nothing.
use Prim.Native.Nat.{ℕ, zero, suc, ◌+◌, ◌*◌, ◌<◌}
use Rattle.std.specs.Prelude.{Bool, true, false, ◌≡◌, eqb}
use mathlib.Core.List.{List, [], ◌∷◌, ◌++◌}
use Rattle.std.proofs.Math.Path.{refl, sym, ap}
use Rattle.std.proofs.Common.{◌∙◌, arith}
use borrow.Author.Tests.{eq-eqb, lt-ltb, le-ltb}
use Rattle.std.proofs.Math.ListN.{length, length-append}
use Rattle.std.proofs.lemmas.List.Edits.{sets}
use Rattle.std.proofs.Math.Seq.{length-sets}
use Rattle.reply.specs.Read.{Read, refused, read, ◌then◌, if_else}
use Rattle.reply.specs.Chain.{then-read}
use Rattle.records.specs.Records.{block_kind, kind_at, end_at, record_reply}
use Rattle.records.specs.Taken.{of_one}
use Rattle.records.specs.declared.Kind.{Kind}
use Rattle.assembly.specs.Book.{find, bond_bytes, block_graph, most_blocks}
use Rattle.assembly.specs.declared.BlockAt.{BlockAt}
use Rattle.summary.specs.Layout.{summary_bytes}
use Rattle.summary.specs.Summary.{summary_of}
use Rattle.filling.specs.Reply.{fill_reply, filled_summary, fill_bytes}
use Rattle.deck.specs.Deck.{longest_deck, kinds_after, Deck, block_at, block_reply_at, blocks_from, blocks_reply, open_reply}
use Rattle.deck.specs.Filled.{with_block, after_fine, book_from, blocks_book, open_book}
use Rattle.deck.specs.Kept.{fit, along, open_read}

-- where nothing more is put, whatever the answer is
stays : (r : Read (Unit {0})) (b : List ℕ) (f : Unit {0} → List ℕ) → f tt ≡ b → after_fine r b f ≡ b
stays (refused q) b f e = refl
stays (read u) b f e = e

either : (t : Bool) (b : List ℕ) (f : Unit {0} → List ℕ) → f tt ≡ b → if_else t f (λ _. b) ≡ b
either true b f e = e
either false b f e = refl

-- the first block is read from the deck's first byte, and found by its number
pub record FirstBlock (d : List ℕ) (bs : List BlockAt) : Type 0 where
  pub rest : List BlockAt
  pub blocks : bs ≡ block_at d 0 ∷ rest
  pub found : find bs (block_at d 0).number ≡ block_at d 0

module _ (last : Kind) (d : List ℕ) where
  abbrev c : BlockAt
  c = block_at d 0

  -- a book that has no place for a block more
  full : (fuel at : ℕ) (done : List BlockAt) (b : List ℕ) → length b < summary_bytes * length done + summary_bytes → book_from fuel last d at done b ≡ b
  unfolding book_from with_block
  full zero at done b h = refl
  full (suc fuel) at done b h =
      let n : length (done ++ block_at d at ∷ []) ≡ length done + 1 = simp length-append in
      stays (record_reply (kinds_after done last) d at) b _
      (either (eqb (kind_at d at) block_kind.number) b _
      (stays (block_reply_at d at done) b _
      (rw (lt-ltb (length b) (summary_bytes * length done + summary_bytes) h) (full fuel (end_at d at) (done ++ block_at d at ∷ []) b (omega (arith, n, h))))))

  -- the first turn
  record FirstTurn (fuel : ℕ) (k : Deck) : Type 0 where
    pub taken : record_reply (kinds_after [] last) d 0 ≡ read tt
    pub kind : kind_at d 0 ≡ block_kind.number
    pub fits : block_reply_at d 0 [] ≡ read tt
    pub others : blocks_from fuel last d (end_at d 0) (block_at d 0 ∷ []) ≡ read k

  turn : (fuel : ℕ) {k : Deck} → blocks_from (suc fuel) last d 0 [] ≡ read k → FirstTurn fuel k
  unfolding blocks_from
  turn fuel {k} e =
      let (u, p, f) = then-read (record_reply (kinds_after [] last) d 0) _ e in
      let h = of_one d 0 block_kind p in
      let g : (block_reply_at d 0 [] then λ _. blocks_from fuel last d (end_at d 0) (c ∷ [])) ≡ read k = rw (eq-eqb (kind_at d 0) block_kind.number h) at f in
      let (v, q, o) = then-read (block_reply_at d 0 []) _ g in
      record { taken = p; kind = h; fits = q; others = o }

  module _ {k : Deck} (e : open_reply last d ≡ read k) where
    begun : FirstTurn most_blocks k
    unfolding blocks_reply
    begun = turn most_blocks (open_read last d e).1

    pub first_block : FirstBlock d k.blocks
    unfolding find
    first_block =
        let E = along last d (λ p bs. (rest : List BlockAt) × (bs ≡ c ∷ rest)) (λ p bs s r b f. (s.0 ++ block_at d p ∷ [], ap (λ (x : List BlockAt). x ++ block_at d p ∷ []) s.1)) most_blocks (end_at d 0) (c ∷ []) ([], refl) begun.others in
        let same : k.blocks ≡ c ∷ E.holds.0 = sym (ap (λ (x : Deck). x.blocks) E.same) ∙ E.holds.1 in
        record { rest = E.holds.0; blocks = same; found = rw (same, eq-eqb c.number c.number refl) refl }

    -- that block's summary in a book of one place
    module _ (b : List ℕ) (one : length b ≡ summary_bytes) where
      put_alone : (fuel : ℕ) → FirstTurn fuel k → book_from (suc fuel) last d 0 [] b ≡ sets b 0 (summary_of c.number (block_graph d c))
      unfolding book_from with_block
      put_alone fuel t =
          let s = summary_of c.number (block_graph d c) in
          rw (t.taken, eq-eqb (kind_at d 0) block_kind.number t.kind, t.fits, le-ltb (length b) summary_bytes (omega (arith, one)))
          (full fuel (end_at d 0) (c ∷ []) (sets b 0 s) (omega (arith, one, length-sets b 0 s)))

      pub first_opened : open_book last d b ≡ fill_bytes (block_at d 0).number (block_at d 0).atoms (bond_bytes d (block_at d 0)) b
      unfolding open_book blocks_book fill_reply filled_summary
      first_opened =
          rw (le-ltb longest_deck (length d) (open_read last d e).0, (fit d 0 [] begun.fits).fine, le-ltb (length b) summary_bytes (omega (arith, one)))
          (put_alone most_blocks begun)
