-- Laws. Room: an addition that no earlier test refuses is refused for room exactly when eight places are taken; a dropped place is used again. On any bytes.
-- Assumes nothing.
use Rattle.std.specs.Prelude.{ℕ, ◌+◌, ◌*◌, ◌≤◌, ◌<◌, Bool, true, false, not, ◌≡◌, refl, ltb, leb, length}
use mathlib.Core.List.{List}
use Rattle.std.proofs.Common.{sym, ◌∙◌}
use Rattle.std.proofs.Math.Path.{ap}
use native.Mathlib.Omega.{arith}
use borrow.Author.Tests.{le-leb, lt-leb, ltb-true, ltb-false, ne_eqb}
use Rattle.std.proofs.lemmas.List.Edits.{sets}
use Rattle.reply.specs.Read.{Read, read, refuse_if}
use Rattle.records.specs.Bytes.{little}
use Rattle.queues.specs.Shelf.{places, number_in, place_holding, holds, zero_number, room_reply, add_reply, drop_reply, dropped}
use Rattle.queues.specs.Seeks.{taken, seek_found, seek_least, seek_hit, taken_all, taken_less}
use Rattle.records.specs.Stored.{little_put}
use Rattle.queues.specs.Storage.{held_place, place_within, other_number}

module _ (w : ℕ) (s : List ℕ) where
  room_taken : place_holding w s 0 < places → taken (number_in w s) places < places
  room_taken h = taken_less (number_in w s) places (place_holding w s 0) h (seek_found (number_in w s) 0 0 places h)

  -- no empty place is found exactly where eight are taken
  pub room_by : not (ltb (place_holding w s 0) places) ≡ leb places (taken (number_in w s) places)
  room_by = go (ltb (place_holding w s 0) places) refl
    where
      go : (t : Bool) → ltb (place_holding w s 0) places ≡ t → not t ≡ leb places (taken (number_in w s) places)
      go true e = sym (lt-leb places (taken (number_in w s) places) (room_taken (ltb-true (place_holding w s 0) places e)))
      go false e =
          let l = ltb-false (place_holding w s 0) places e in
          let f = taken_all (number_in w s) places (λ i p z. seek_least (number_in w s) 0 0 places i (omega arith) (omega arith) z) in
          sym (le-leb places (taken (number_in w s) places) (omega (arith, f)))

  -- REFUSED FOR ROOM EXACTLY WHEN EIGHT ARE HELD
  pub room_exactly : (x : ℕ) (r : Read (Unit {0})) → r ≡ read tt → 1 ≤ x → holds w s x ≡ false → add_reply w s x r ≡ refuse_if (leb places (taken (number_in w s) places)) 28 0
  unfolding add_reply room_reply
  room_exactly x r e p n = rw (e, ne_eqb x 0 (λ z. omega arith), n, room_by)

  module _ (size : length s ≡ w * places) (wide : 2 ≤ w) (x : ℕ) (held : holds w s x ≡ true) where
    drop_is : dropped w s x ≡ sets s (w * place_holding w s x) zero_number
    unfolding dropped drop_reply
    drop_is = rw held

    gone : number_in w (dropped w s x) (place_holding w s x) ≡ 0
    unfolding little
    gone =
        let z : w * place_holding w s x ≡ w * place_holding w s x + 0 = omega arith in
        ap (λ (l : List ℕ). number_in w l (place_holding w s x)) drop_is
        ∙ ap (little 2 (sets s (w * place_holding w s x) zero_number)) z
        ∙ little_put 2 zero_number s (w * place_holding w s x) 0 (omega (arith, place_within w (place_holding w s x) (held_place (number_in w s) x held), size)) (omega arith)

    -- there is room then
    pub room_again : place_holding w (dropped w s x) 0 < places
    room_again = go (ltb (place_holding w (dropped w s x) 0) places) refl
      where
        go : (t : Bool) → ltb (place_holding w (dropped w s x) 0) places ≡ t → place_holding w (dropped w s x) 0 < places
        go true e = ltb-true _ places e
        go false e =
            absurd (seek_least (number_in w (dropped w s x)) 0 0 places (place_holding w s x) (omega arith) (omega (arith, held_place (number_in w s) x held, ltb-false (place_holding w (dropped w s x) 0) places e)) gone)

    -- A DROPPED PLACE IS USED AGAIN: where no other is empty, it is the one that the next addition takes
    pub same_place_again : ((i : ℕ) → i < places → number_in w s i ≡ 0 → ⊥) → place_holding w (dropped w s x) 0 ≡ place_holding w s x
    same_place_again full =
        seek_hit (number_in w (dropped w s x)) 0 0 places (place_holding w s x) (omega arith) (held_place (number_in w s) x held) gone
        (λ i l m e. full i (omega (arith, held_place (number_in w s) x held)) (sym (ap (λ (l : List ℕ). number_in w l i) drop_is ∙ other_number w wide s (place_holding w s x) i (λ z. omega arith)) ∙ e))
