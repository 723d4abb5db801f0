-- A book that is filled while a deck is read holds the deck's blocks. Assumes nothing.
use Prim.Native.Nat.{ℕ, zero, suc, ◌+◌, ◌*◌, ◌≤◌, ◌<◌}
use mathlib.Core.List.{List, [], ◌∷◌, ◌++◌}
use mathlib.Core.Logic.{⊎_elim}
use mathlib.Core.Path.{◌≡◌, refl, sym, ◌∙◌, ap, subst}
use native.Mathlib.Omega.{arith}
use borrow.Author.Tests.{eqb-true, eqb-false, le-ltb}
use lib.Dec.{eqb}
use lib.ListN.{length, get_or, length-append}
use lib.Seq.{sets, length-sets, take-length, get_or-append_seam}
use Rattle.reply.specs.Read.{Read, refused, read, ◌then◌}
use Rattle.reply.specs.Chain.{not_read, then-read}
use Rattle.records.specs.Bytes.{little}
use Rattle.records.specs.Records.{block_kind, kind_at, end_at, record_reply}
use Rattle.records.specs.declared.Kind.{Kind}
use Rattle.block.specs.Block.{block_reply}
use Rattle.assembly.specs.Book.{most_blocks, bond_bytes, Book, book_of}
use Rattle.assembly.specs.declared.BlockAt.{BlockAt}
use Rattle.summary.specs.Layout.{summary_bytes}
use Rattle.deck.specs.Deck.{kinds_after, Deck, block_at, deck_at, block_reply_at, blocks_from, blocks_reply}
use Rattle.deck.specs.Filled.{with_block, book_from, blocks_book}
use Rattle.deck.specs.Kept.{Each, Standing, along, kept, fit, chosen}
use Rattle.deck.proofs.Filled.{reply_puts, book_no_block, book_one_block}
use Rattle.block.specs.declared.Indices.{Indices}
use Rattle.assembly.specs.Placements.{shelf_reply, assembly_reply}
use Rattle.shelf.specs.Shelf.{shelf_in}
use Rattle.summaries.specs.Composing.{composed_reply}
use Rattle.summaries.specs.Written.{HonestBook, written_reply, composed_written}
use Rattle.deck.specs.Booked.{block_in, summary_in, HoldsBlock, Booked}
use Rattle.deck.proofs.Booking.{booked_none, booked_more, honest_book}

each_fine : (d : List ℕ) (bs : List BlockAt) → Each (Standing d) bs → (i : ℕ) → i < length bs → block_reply (block_in bs i).atoms (bond_bytes d (block_in bs i)) ≡ read tt
unfolding Each
each_fine d [] s i l = absurd (omega arith)
each_fine d (b ∷ bs) s zero l = s.0.fine
each_fine d (b ∷ bs) s (suc i) l = each_fine d bs s.1 i (omega arith)

first_of : (bs cs : List BlockAt) (i : ℕ) → i < length bs → block_in (bs ++ cs) i ≡ block_in bs i
first_of [] cs i l = absurd (omega arith)
first_of (b ∷ bs) cs zero l = refl
first_of (b ∷ bs) cs (suc i) l = first_of bs cs i (omega arith)

module _ (last : Kind) (d : List ℕ) where
  grows : (fuel at : ℕ) (done : List BlockAt) {k : Deck} → blocks_from fuel last d at done ≡ read k → length done ≤ length k.blocks
  grows fuel at done e =
      let E = along last d (λ p bs. length done ≤ length bs) (λ p bs l r b f. let n : length (bs ++ block_at d p ∷ []) ≡ length bs + 1 = simp length-append in omega (arith, n, l)) fuel at done (omega arith) e in
      omega (arith, E.holds, ap (λ (y : Deck). length y.blocks) E.same)

  module _ (bytes : (i : ℕ) → get_or d i 0 < 256) where
    number_small : (at : ℕ) → (block_at d at).number < 65536
    unfolding little
    number_small at = omega (arith, bytes (at + 4), bytes (at + 4 + 1))

    -- a block more
    module _ (at : ℕ) (done : List BlockAt) (b : List ℕ) (f : block_reply_at d at done ≡ read tt) (room : summary_bytes * length done + summary_bytes ≤ length b) (B : Booked d done b (length done)) where
      abbrev c : BlockAt
      c = block_at d at

      put : with_block d b (length done) c ≡ sets b (summary_bytes * length done) (summary_in d c)
      unfolding with_block
      put = rw (le-ltb (length b) (summary_bytes * length done + summary_bytes) room)

      put_long : length (with_block d b (length done) c) ≡ length b
      put_long = ap length put ∙ length-sets b (summary_bytes * length done) (summary_in d c)

      with_it : Booked d (done ++ c ∷ []) b (length done)
      with_it = record {
        holds = λ i l. subst (HoldsBlock d b i) (sym (first_of done (c ∷ []) i l)) (B.holds i l);
        empty = B.empty;
      }

      booked_next : Booked d (done ++ c ∷ []) (with_block d b (length done) c) (length (done ++ c ∷ []))
      booked_next =
          let last : block_in (done ++ c ∷ []) (length done) ≡ c = get_or-append_seam done c [] _ in
          let n : length (done ++ c ∷ []) ≡ length done + 1 = simp length-append in
          let more = booked_more d (done ++ c ∷ []) b (length done)
          (subst (λ (x : BlockAt). block_reply x.atoms (bond_bytes d x) ≡ read tt) (sym last) (fit d at done f).fine) (subst (λ (x : BlockAt). x.number < 65536) (sym last) (number_small at)) room with_it in
          rw (put, n) (subst (λ (x : BlockAt). Booked d (done ++ c ∷ []) (sets b (summary_bytes * length done) (summary_in d x)) (length done + 1)) last more)

    booked_from : (fuel at : ℕ) (done : List BlockAt) (b : List ℕ) {k : Deck} → Booked d done b (length done) → blocks_from fuel last d at done ≡ read k → summary_bytes * length k.blocks ≤ length b
        → Booked d k.blocks (book_from fuel last d at done b) (length k.blocks)
    unfolding blocks_from
    booked_from zero at done b B e r = absurd (not_read e)
    booked_from (suc fuel) at done b {k} B e r =
        let (u, p, f) = then-read (record_reply (kinds_after done last) d at) _ e in
        ⊎_elim
        (λ t.
        let (v, q, g) = then-read (block_reply_at d at done) _ t.1 in
        let n : length (done ++ block_at d at ∷ []) ≡ length done + 1 = simp length-append in
        let room : summary_bytes * length done + summary_bytes ≤ length b = omega (arith, r, n, grows fuel (end_at d at) (done ++ block_at d at ∷ []) g) in
        let same = book_one_block fuel last d at done b p (eqb-true (kind_at d at) block_kind.number t.0) q
        ∙ ap (λ (x : List ℕ). book_from fuel last d (end_at d at) (done ++ block_at d at ∷ []) x) (reply_puts d at done b q) in
        subst (λ (x : List ℕ). Booked d k.blocks x (length k.blocks)) (sym same)
        (booked_from fuel (end_at d at) (done ++ block_at d at ∷ []) (with_block d b (length done) (block_at d at)) (booked_next at done b q room B) g (omega (arith, r, put_long at done b q room B))))
        (λ t.
        let same : deck_at d done at ≡ k = cc t.1 in
        rw (book_no_block fuel last d at done b p (eqb-false (kind_at d at) block_kind.number t.0), ← same) B)
        (chosen (eqb (kind_at d at) block_kind.number) _ _ f)

    -- A BOOK THAT IS FILLED WHILE A DECK IS READ is honest
    pub honest_read : {k : Deck} (b new : List ℕ) → summary_bytes * length k.blocks ≤ length b → ((p : ℕ) → get_or b p 0 ≡ 0) → blocks_reply last d ≡ read k → new ≡ blocks_book last d b → length new ≡ length b
        → HonestBook new (book_of d k.blocks)
    unfolding blocks_reply blocks_book
    honest_read {k} b new room none e q l =
        let bs = k.blocks in
        let blank = booked_none {d = d} {bs = []} {count = 0} {b = b} (record { few = omega arith; fine = λ i h. absurd (omega arith); room = omega arith; zero = none }) in
        let B = booked_from (suc most_blocks) 0 [] b blank e room in
        subst (λ (x : List BlockAt). HonestBook new (book_of d x)) (take-length bs)
        (honest_book d bs (length bs) new (omega arith) (omega (arith, l, room)) (each_fine d bs (kept last d e).blocks) (subst (λ (x : List ℕ). Booked d bs x (length bs)) (sym q) B))

-- over an honest book the same is refused of an assembly
same_first : (r s : Read (Unit {0})) (x y : Indices) → ◌≡◌ {A = Read Indices} (r then λ _. read x) (s then λ _. read y) → r ≡ s
same_first (refused p) (refused q) x y e = cc
same_first (refused p) (read u) x y e = absurd (not_read e)
same_first (read u) (refused q) x y e = absurd (not_read (sym e))
same_first (read u) (read v) x y e = refl

pub same_refusals : (b : List ℕ) (book : Book) (xs : List ℕ) → HonestBook b book → shelf_reply (shelf_in b) xs ≡ assembly_reply book xs
unfolding composed_reply written_reply
same_refusals b book xs h = same_first (shelf_reply (shelf_in b) xs) (assembly_reply book xs) _ _ (composed_written b book xs h)
