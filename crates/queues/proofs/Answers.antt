-- Laws. The replies, test by test. Assumes nothing.
use Prim.Native.Nat.{ℕ, ◌+◌, ◌*◌, ◌-◌, ◌≤◌, ◌<◌}
use mathlib.Core.Bool.{Bool, true, false}
use mathlib.Core.List.{List, ◌++◌}
use mathlib.Core.Path.{◌≡◌, refl, sym, ◌∙◌, ap}
use borrow.Author.Tests.{eq-eqb, ne_eqb, lt-ltb, le-ltb, ltb-true, not-false}
use native.Mathlib.Omega.{arith}
use lib.Dec.{eqb}
use lib.ListN.{length, take, drop}
use lib.Seq.{sets}
use Rattle.reply.specs.Read.{Read, refused, read, refusal, ◌then◌, refuse_if, as_result}
use Rattle.reply.specs.declared.Refusal.{Refusal}
use Rattle.block.specs.Block.{block_reply}
use Rattle.filling.specs.Reply.{fill_reply, fill_bytes}
use Rattle.filling.proofs.Places.{place_told, place_stays, place_puts}
use Rattle.reply.specs.Chain.{then-read, if_read}
use Rattle.queues.specs.Shelf.{places, place_holding, is_held, held_by, holds, zero_number, unless, room_reply, add_reply, added, look_reply, drop_reply, dropped}
use Rattle.queues.specs.Table.{shelf_bytes, table_bytes, shelf_start, shelf, on_table, table_after, with_shelf, table_reply, zeroed, emptied}
use Rattle.queues.specs.declared.Queue.{Queue}
use Rattle.summary.specs.Layout.{summary_bytes}
use Rattle.queues.specs.Queues.{stored_block}
use Rattle.queues.specs.Work.{first_of, filled_in}
use Rattle.std.specs.Prelude.{Result}

module _ (s : List ℕ) (x : ℕ) where
  pub held_is : (k : ℕ) (b : Bool) → b ≡ is_held x k → k ≡ place_holding summary_bytes s x → holds summary_bytes s x ≡ b
  unfolding held_by
  held_is k b h e = rw (h, e)

  pub room_zero : x ≡ 0 → room_reply summary_bytes s x ≡ refused (refusal 14 0)
  unfolding room_reply
  room_zero e = rw (eq-eqb x 0 e)

  module _ (n : x ≡ 0 → ⊥) where
    pub room_held : holds summary_bytes s x ≡ true → room_reply summary_bytes s x ≡ refused (refusal 29 0)
    unfolding room_reply
    room_held h = rw (ne_eqb x 0 n, h)

    pub room_fine : holds summary_bytes s x ≡ false → place_holding summary_bytes s 0 < places → room_reply summary_bytes s x ≡ read tt
    unfolding room_reply
    room_fine h l = rw (ne_eqb x 0 n, h, lt-ltb (place_holding summary_bytes s 0) places l)

    pub room_none : holds summary_bytes s x ≡ false → places ≤ place_holding summary_bytes s 0 → room_reply summary_bytes s x ≡ refused (refusal 28 0)
    unfolding room_reply
    room_none h l = rw (ne_eqb x 0 n, h, le-ltb (place_holding summary_bytes s 0) places l)

  pub look_none : {F : Type 0} (f : List ℕ → F) → holds summary_bytes s x ≡ false → look_reply summary_bytes s f x ≡ refused (refusal 30 0)
  unfolding look_reply
  look_none f h = rw h

  -- what is read of the part from the place's first byte to the next one's
  pub look_held : {F : Type 0} (f : List ℕ → F) (k : ℕ) → holds summary_bytes s x ≡ true → k ≡ place_holding summary_bytes s x
      → look_reply summary_bytes s f x ≡ read (f (take (summary_bytes * k + summary_bytes - summary_bytes * k) (drop (summary_bytes * k) s)))
  unfolding look_reply
  look_held f k h e = let n : summary_bytes * k + summary_bytes - summary_bytes * k ≡ summary_bytes = omega arith in rw (n, h, e)

  pub drop_none : holds summary_bytes s x ≡ false → drop_reply summary_bytes s x ≡ refused (refusal 30 0)
  unfolding drop_reply
  drop_none h = rw h

  pub drop_held : holds summary_bytes s x ≡ true → drop_reply summary_bytes s x ≡ read tt
  unfolding drop_reply
  drop_held h = rw h

  pub dropped_none : holds summary_bytes s x ≡ false → s ≡ dropped summary_bytes s x
  unfolding dropped
  dropped_none h = rw (drop_none h)

  pub dropped_held : holds summary_bytes s x ≡ true → dropped summary_bytes s x ≡ sets s (summary_bytes * place_holding summary_bytes s x) (zero_number)
  unfolding dropped
  dropped_held h = rw (drop_held h)

  -- adding, by the room that there is
  module _ (n : ℕ) (bs : List ℕ) where
    pub add_unroomed : (r : Refusal) → room_reply summary_bytes s x ≡ refused r → add_reply summary_bytes s x (block_reply n bs) ≡ first_of (block_reply n bs) r
    unfolding add_reply first_of
    add_unroomed r e = rw e

    pub added_unroomed : (r : Refusal) → room_reply summary_bytes s x ≡ refused r → s ≡ added summary_bytes s x (block_reply n bs) (stored_block x n bs)
    unfolding added first_of
    added_unroomed r e = go (block_reply n bs) ∙ sym (ap (λ (m : Read (Unit {0})). unless m s (sets s (summary_bytes * place_holding summary_bytes s 0) (stored_block x n bs))) (add_unroomed r e))
      where
        go : (m : Read (Unit {0})) → s ≡ unless (first_of m r) s (sets s (summary_bytes * place_holding summary_bytes s 0) (stored_block x n bs))
        go (refused q) = refl
        go (read u) = refl

    pub add_roomed : room_reply summary_bytes s x ≡ read tt → add_reply summary_bytes s x (block_reply n bs) ≡ block_reply n bs
    unfolding add_reply
    add_roomed e = rw e (go (block_reply n bs))
      where
        go : (m : Read (Unit {0})) → (m then λ _. read tt) ≡ m
        go (refused r) = refl
        go (read u) = refl

    pub added_roomed : room_reply summary_bytes s x ≡ read tt → added summary_bytes s x (block_reply n bs) (stored_block x n bs) ≡ filled_in s x n bs
    unfolding added filled_in
    added_roomed e = ap (λ (r : Read (Unit {0})). unless r s (sets s (summary_bytes * place_holding summary_bytes s 0) (stored_block x n bs))) (add_roomed e)

-- where there is room, an empty place is one of the eight
pub room_place : (s : List ℕ) (x : ℕ) → room_reply summary_bytes s x ≡ read tt → place_holding summary_bytes s 0 < places
unfolding room_reply
room_place s x e =
    let (u, a, f) = then-read (refuse_if (eqb x 0) 14 0) _ e in
    let (v, b, g) = then-read (refuse_if (holds summary_bytes s x) 29 0) _ f in
    ltb-true (place_holding summary_bytes s 0) places (not-false _ (if_read _ 28 0 g))

-- the table
module _ (t : List ℕ) where
  pub short_reply : {A : Type 0} (r : Read A) → length t < (table_bytes summary_bytes) → on_table summary_bytes t r ≡ refused (refusal 9 0)
  short_reply r l = rw (lt-ltb (length t) (table_bytes summary_bytes) l)

  pub short_after : (q : Queue) (s : List ℕ) → length t < (table_bytes summary_bytes) → t ≡ table_after summary_bytes q t s
  short_after q s l = rw (lt-ltb (length t) (table_bytes summary_bytes) l)

  pub long_reply : {A : Type 0} (r : Read A) → (table_bytes summary_bytes) ≤ length t → on_table summary_bytes t r ≡ r
  long_reply r l = rw (le-ltb (length t) (table_bytes summary_bytes) l)

  pub long_after : (q : Queue) (s : List ℕ) → (table_bytes summary_bytes) ≤ length t → table_after summary_bytes q t s ≡ with_shelf summary_bytes q t s
  long_after q s l = rw (le-ltb (length t) (table_bytes summary_bytes) l)

  pub short_table : length t < (table_bytes summary_bytes) → table_reply summary_bytes t ≡ refused (refusal 9 0)
  short_table l = rw (lt-ltb (length t) (table_bytes summary_bytes) l)

  pub long_table : (table_bytes summary_bytes) ≤ length t → table_reply summary_bytes t ≡ read tt
  long_table l = rw (le-ltb (length t) (table_bytes summary_bytes) l)

  pub short_empty : length t < (table_bytes summary_bytes) → t ≡ emptied summary_bytes t
  short_empty l = rw (short_table l)

  pub long_empty : (table_bytes summary_bytes) ≤ length t → emptied summary_bytes t ≡ zeroed summary_bytes t
  long_empty l = rw (long_table l)

-- what a call does with the part of a table that it is lent
module _ (q : Queue) (t : List ℕ) (a : ℕ) (e : a ≡ shelf_start summary_bytes q) (l : (table_bytes summary_bytes) ≤ length t) where
  size : a + (shelf_bytes summary_bytes) - a ≡ (shelf_bytes summary_bytes)
  size = omega arith

  pub reply_on : {A B : Type 0} (say : Read A → B) (f : List ℕ → Read A) (r : B) → r ≡ say (f (take (a + (shelf_bytes summary_bytes) - a) (drop a t))) → r ≡ say (on_table summary_bytes t (f (shelf summary_bytes q t)))
  reply_on say f r h = rw (long_reply t (f (shelf summary_bytes q t)) l) (rw (size, e) at h)

  pub after_on : (f : List ℕ → List ℕ) (s : List ℕ) → s ≡ f (take (a + (shelf_bytes summary_bytes) - a) (drop a t)) → take a t ++ (s ++ drop (a + (shelf_bytes summary_bytes) - a) (drop a t)) ≡ table_after summary_bytes q t (f (shelf summary_bytes q t))
  after_on f s h = rw (long_after t q (f (shelf summary_bytes q t)) l, size, e, ← (rw (size, e) at h))

-- what filling does with the part of a shelf that it is lent
module _ (s : List ℕ) (x n : ℕ) (bs : List ℕ) (k : ℕ) (e : k ≡ place_holding summary_bytes s 0) (size : length s ≡ shelf_bytes summary_bytes) (l : k < places) where
  fits : summary_bytes * k + summary_bytes ≤ length s
  fits = omega (arith, size, l)

  pub lent_reply : (r : Result (Unit {0}) Refusal) → r ≡ as_result (fill_reply n bs (length (take (summary_bytes * k + summary_bytes - summary_bytes * k) (drop (summary_bytes * k) s)))) → r ≡ as_result (block_reply n bs)
  lent_reply r q = q ∙ ap as_result (place_told s k fits x n bs)

  pub lent_bytes : (new : List ℕ) → new ≡ fill_bytes x n bs (take (summary_bytes * k + summary_bytes - summary_bytes * k) (drop (summary_bytes * k) s))
      → take (summary_bytes * k) s ++ (new ++ drop (summary_bytes * k + summary_bytes - summary_bytes * k) (drop (summary_bytes * k) s)) ≡ filled_in s x n bs
  unfolding filled_in
  lent_bytes new q = go (block_reply n bs) refl
    where
      go : (m : Read (Unit {0})) → block_reply n bs ≡ m
          → take (summary_bytes * k) s ++ (new ++ drop (summary_bytes * k + summary_bytes - summary_bytes * k) (drop (summary_bytes * k) s)) ≡ unless m s (sets s (summary_bytes * place_holding summary_bytes s 0) (stored_block x n bs))
      go (refused r) f = place_stays s k fits x n bs new q r f
      go (read u) f = place_puts s k fits x n bs new q f ∙ ap (λ (i : ℕ). sets s (summary_bytes * i) (stored_block x n bs)) e

-- a refusal that comes first, or last
pub first_refused : (m : Read (Unit {0})) (r q : Refusal) → m ≡ refused r → first_of m q ≡ refused r
unfolding first_of
first_refused m r q e = rw e

pub first_fine : (m : Read (Unit {0})) (q : Refusal) → m ≡ read tt → first_of m q ≡ refused q
unfolding first_of
first_fine m q e = rw e
