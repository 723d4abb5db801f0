-- Laws. After any calls of both queues since the table was made empty, whatever was there: what the next call of a queue is told is told by what its own calls
-- left it. It is refused for room exactly when that is eight; a dropped place is used again. For anything that is stored. Assumes nothing.
use Rattle.std.specs.Prelude.{ℕ, suc, ◌≤◌, true, false, ◌≡◌, leb, length, replicate}
use mathlib.Core.List.{List, [], ◌∷◌}
use Rattle.std.proofs.Math.Path.{refl}
use Rattle.std.proofs.Common.{◌∙◌, ap, subst, arith}
use borrow.Author.Tests.{ne_eqb, le-ltb, lt-leb}
use Rattle.std.proofs.Math.Seq.{length-sets}
use Rattle.reply.specs.Read.{read, refuse_if}
use Rattle.queues.specs.Shelf.{places, number_in, place_holding}
use Rattle.queues.specs.Table.{table_bytes, shelf, zeroed, emptied}
use Rattle.queues.specs.Calls.{CallNumber, Trade, Call, add, drop, done, Sent, own, table_answer, table_left, table_all}
use Rattle.queues.specs.Model.{Entry, has, without, Meaning, told_add, told_drop, told, left, left_all}
use Rattle.queues.specs.Seeks.{taken_less}
use Rattle.queues.specs.Entries.{has_positive, has-number, without-length}
use Rattle.queues.specs.Room.{same_place_again}
use Rattle.queues.specs.Keeps.{HonestTrade}
use Rattle.queues.proofs.Kept.{KeptPlaces, at_most_eight, same_answer, same_left}
use Rattle.queues.proofs.OwnCalls.{table_answer_lem, own_after, left_length, keeps_own}
use Rattle.queues.specs.declared.Queue.{Queue}

emptied-length : (w : ℕ) (t : List ℕ) → table_bytes w ≤ length t → length (emptied w t) ≡ length t
unfolding zeroed
emptied-length w t long = rw (le-ltb (length t) (table_bytes w) long) (length-sets t 0 (replicate (table_bytes w) 0))

module _ {G F O S T : Type 0} {trade : Trade G F O S T} {m : Meaning G F O T} (h : HonestTrade trade m) where
  abbrev w : ℕ
  w = trade.width

  all_length : (t : List ℕ) → table_bytes w ≤ length t → (cs : List (Sent G O)) → length (table_all trade t cs) ≡ length t
  unfolding table_all
  all_length t long [] = refl
  all_length t long (c ∷ cs) =
      let one = left_length trade t long c.queue c.call in
      all_length (table_left trade c.queue t c.call) (omega (arith, one)) cs ∙ one

  module _ (q : Queue) (t : List ℕ) (long : table_bytes w ≤ length t) (cs : List (Sent G O)) where
    abbrev now : List ℕ
    now = table_all trade (emptied w t) cs

    abbrev held : List (Entry G)
    held = left_all m [] (own q cs)

    keeps : KeptPlaces h (shelf w q now) held
    keeps = keeps_own h q t long cs

    now_long : table_bytes w ≤ length now
    now_long =
        let l = emptied-length w t long in
        omega (arith, l, all_length (emptied w t) (omega (arith, l)) cs)

    -- THE NEXT CALL is told what a queue with no bytes that holds this tells
    pub next_told : (c : Call G O) → table_answer trade q now c ≡ told m held c
    next_told c = table_answer_lem trade now now_long q c ∙ same_answer h keeps c

    -- REFUSED FOR ROOM EXACTLY WHEN THE QUEUE HOLDS EIGHT, where no earlier test refuses
    pub room_exactly_eight : (x : CallNumber) (g : G) → m.fine g ≡ read tt → 1 ≤ x.value → has m.nothing held x.value ≡ false
        → table_answer trade q now (add x g) ≡ done (refuse_if (leb places (length held)) 28 0)
    unfolding told_add
    room_exactly_eight x g fine positive new = next_told (add x g) ∙ rw (fine, ne_eqb x.value 0 (λ z. omega arith), new)

    pub never_nine : length held ≤ places
    never_nine = at_most_eight h keeps

    -- where a block is dropped that it holds, the queue holds all but that
    module _ (x : ℕ) (there : has m.nothing held x ≡ true) where
      abbrev later : List ℕ
      later = table_left trade q now (drop x)

      later_long : table_bytes w ≤ length later
      later_long = omega (arith, now_long, left_length trade now now_long q (drop x))

      left_is : left m held (drop x) ≡ without held x
      unfolding told_drop
      left_is = rw there

      keeps_later : KeptPlaces h (shelf w q later) (without held x)
      keeps_later = subst (KeptPlaces h (shelf w q later)) left_is (rw (own_after trade now now_long q (drop x)) (same_left h keeps (drop x)))

      fewer : suc (length (without held x)) ≡ length held
      fewer = without-length m.nothing held x (has_positive m.nothing held x there) (has-number m.nothing held x there)

      -- THERE IS ROOM AGAIN: the next addition that no earlier test refuses is taken
      pub room_after_drop : (y : CallNumber) (g : G) → m.fine g ≡ read tt → 1 ≤ y.value → has m.nothing (without held x) y.value ≡ false
          → table_answer trade q later (add y g) ≡ done (read tt)
      unfolding told_add
      room_after_drop y g fine positive new =
          table_answer_lem trade later later_long q (add y g)
          ∙ same_answer h keeps_later (add y g)
          ∙ rw (fine, ne_eqb y.value 0 (λ z. omega arith), new, lt-leb places (length (without held x)) (omega (arith, fewer, never_nine)))

      -- THE DROPPED PLACE IS USED AGAIN: of a queue that held eight it is the empty place that the next addition takes
      pub place_after_drop : length held ≡ places → place_holding w (shelf w q later) 0 ≡ place_holding w (shelf w q now) x
      place_after_drop full =
          ap (λ (s : List ℕ). place_holding w s 0) (own_after trade now now_long q (drop x))
          ∙ same_place_again w (shelf w q now) keeps.stores.size h.wide x (keeps.stores.numbers x ∙ there)
          (λ i l z. omega (arith, taken_less (number_in w (shelf w q now)) places i l z, keeps.stores.count))
