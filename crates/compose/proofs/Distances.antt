-- What is replied to a query of two placed atoms, and the number over the book that is filled while a deck is read. Assumes nothing.
use Prim.Native.Nat.{ℕ, ◌-◌, ◌<◌}
use mathlib.Core.Bool.{true, false, ◌||◌}
use mathlib.Core.List.{List}
use mathlib.Core.Path.{◌≡◌, sym, ◌∙◌, ap}
use native.Mathlib.Omega.{arith}
use lib.ListN.{length, get_or}
use Rattle.graph.specs.Assembly.{Placed}
use Rattle.graph.specs.Climb.{apart}
use Rattle.reply.specs.Read.{refused, read, refusal, as_result}
use Rattle.reply.specs.declared.Refusal.{Refusal}
use Rattle.records.specs.Records.{payload_at, assembly_kind}
use Rattle.assembly.specs.Book.{book_of}
use Rattle.assembly.specs.Placements.{placement_count, placement_at, graph_on, join_on}
use Rattle.deck.specs.Deck.{Deck, deck_reply}
use Rattle.deck.specs.Filled.{open_book}
use Rattle.deck.specs.Kept.{kept}
use Rattle.deck.specs.Molecule.{placed_in, graph_at, join_at, molecule_of}
use Rattle.deck.specs.Placed.{is_missing, placed_distance_reply}
use Rattle.deck.specs.Present.{present}
use Rattle.deck.specs.Sound.{parts}
use Rattle.deck.specs.Unfilled.{Unfilled}
use Rattle.deck.specs.declared.Form.TheVariants.{Composed}
use Rattle.deck.proofs.Few.{few_heads}
use Rattle.deck.proofs.Filled.{book_short}
use Rattle.deck.proofs.Honest.{honest_read}
use Rattle.climb.specs.Far.{placed_far}
use Rattle.climb.specs.Written.{far_written}
use Rattle.std.specs.Prelude.{Ok, Err}

module _ (d : List ℕ) (k i l j : ℕ) where
  pub reply-refused : {q : Refusal} → deck_reply Composed d ≡ refused q → Err q ≡ as_result (placed_distance_reply d k i l j)
  unfolding placed_distance_reply
  reply-refused e = rw e

  module _ {deck : Deck} (e : deck_reply Composed d ≡ read deck) where
    pub reply_missing : (is_missing d deck k i || is_missing d deck l j) ≡ true → Err (refusal 18 0) ≡ as_result (placed_distance_reply d k i l j)
    unfolding placed_distance_reply
    reply_missing m = rw (e, m)

    module _ (m : is_missing d deck k i ≡ false) (n : is_missing d deck l j ≡ false) where
      reply_far : Ok (apart (graph_at d deck) (join_at d deck) (deck.placements - 1) k i l j) ≡ as_result (placed_distance_reply d k i l j)
      unfolding placed_distance_reply molecule_of
      reply_far = rw (e, m, n)

      pub book_far : ((p : ℕ) → get_or d p 0 < 256) → (b new : List ℕ) → Unfilled d b → new ≡ open_book assembly_kind d b → length new ≡ length b
          → (xs : List ℕ) → xs ≡ payload_at d deck.assembly → (r : ℕ) → r ≡ placed_far new xs k i l j → Ok r ≡ as_result (placed_distance_reply d k i l j)
      unfolding graph_at join_at placed_in
      book_far bytes b new u f same xs g r h =
          let p = parts Composed d deck e in
          let q = kept assembly_kind d p.blocks in
          let book = book_of d deck.blocks in
          let pay = payload_at d deck.assembly in
          let c : deck.placements ≡ placement_count pay = ap (λ (x : Deck). x.placements) q.places in
          let honest = honest_read assembly_kind d bytes b new (omega (arith, few_heads assembly_kind d p.blocks, u.room)) u.none p.blocks (f ∙ book_short assembly_kind d b p.short) same in
          let one : Placed (graph_on book (placement_at pay)) (placement_count pay - 1) k i = rw (← c) (present d deck k i m) in
          let two : Placed (graph_on book (placement_at pay)) (placement_count pay - 1) l j = rw (← c) (present d deck l j n) in
          let w = far_written new book pay honest p.assembly one two in
          ap Ok (h ∙ ap (λ (x : List ℕ). placed_far new x k i l j) g ∙ w ∙ ap (λ (x : ℕ). apart (graph_on book (placement_at pay)) (join_on (placement_at pay)) (x - 1) k i l j) (sym c)) ∙ reply_far
