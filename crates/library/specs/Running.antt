-- Laws. What a step is told, and how a run goes on: one step at a time, as long as there is room and a product. Assumes nothing.
use Prim.Native.Nat.{ℕ, zero, suc, ◌≤◌, ◌<◌}
use Rattle.std.specs.Prelude.{List, ◌≡◌, length, drop}
use Rattle.std.proofs.Math.Path.{refl}
use borrow.Author.Tests.{lt-ltb, le-ltb}
use Rattle.reply.specs.Read.{refused, read, refusal}
use Rattle.reply.specs.declared.Refusal.{Refusal}
use Rattle.records.specs.declared.Sheet.{Sheet}
use Rattle.deck.specs.Deck.{longest_deck}
use Rattle.sheets.specs.Sheets.{fields_of, sheet_record, sheet_bytes}
use Rattle.catalogue.specs.Library.{Library, library_reply}
use Rattle.catalogue.specs.Products.{products, product_at, done, made, product_reply}
use Rattle.catalogue.proofs.Sound.{whole}
use Rattle.library.specs.Steps.{step_reply, behind, steps_from}

module _ (s : Sheet) (d : List ℕ) (position n : ℕ) where
  -- 20, and then 9, come before all else
  pub step_long : longest_deck < length d → step_reply s d position n ≡ refused (refusal 20 0)
  unfolding step_reply
  step_long h = rw (lt-ltb longest_deck (length d) h)

  module _ (h : length d ≤ longest_deck) where
    pub step_short : n < sheet_bytes s → step_reply s d position n ≡ refused (refusal 9 0)
    unfolding step_reply
    step_short l = rw (le-ltb longest_deck (length d) h, lt-ltb n (sheet_bytes s) l)

    pub step_product : sheet_bytes s ≤ n → step_reply s d position n ≡ product_reply d position
    unfolding step_reply
    step_product l = rw (le-ltb longest_deck (length d) h, le-ltb n (sheet_bytes s) l)

-- where the first step makes nothing, nor does the run
module _ (s : Sheet) (d : List ℕ) (position : ℕ) (out : List ℕ) where
  pub run_stops : (k : ℕ) (r : Refusal) → step_reply s d position (length out) ≡ refused r → steps_from k s d position out ≡ record { next = position; out = out }
  unfolding steps_from
  run_stops zero r e = refl
  run_stops (suc k) r e = rw e

  pub run_ends : (k : ℕ) → step_reply s d position (length out) ≡ read done → steps_from k s d position out ≡ record { next = position; out = out }
  unfolding steps_from
  run_ends zero e = refl
  run_ends (suc k) e = rw e

pub product_stops : (d : List ℕ) (position : ℕ) (r : Refusal) → library_reply d ≡ refused r → product_reply d position ≡ refused r
unfolding product_reply
product_stops d position r e = rw e

-- of a library that is read
module _ (s : Sheet) (d : List ℕ) (l : Library) (e : library_reply d ≡ read l) where
  pub made_step : (position n : ℕ) → position < products l.sites → sheet_bytes s ≤ n → step_reply s d position n ≡ read (made (product_at d l position))
  unfolding step_reply product_reply
  made_step position n h r = rw (le-ltb longest_deck (length d) (whole d l e).short, le-ltb n (sheet_bytes s) r, e, lt-ltb position (products l.sites) h)

  pub done_step : (position n : ℕ) → products l.sites ≤ position → sheet_bytes s ≤ n → step_reply s d position n ≡ read done
  unfolding step_reply product_reply
  done_step position n h r = rw (le-ltb longest_deck (length d) (whole d l e).short, le-ltb n (sheet_bytes s) r, e, le-ltb position (products l.sites) h)

  -- one step, and then the rest
  pub run_next : (k position : ℕ) (out : List ℕ) → position < products l.sites → sheet_bytes s ≤ length out
      → steps_from (suc k) s d position out ≡ behind (sheet_record s (fields_of s (product_at d l position))) (steps_from k s d (suc position) (drop (sheet_bytes s) out))
  unfolding steps_from
  run_next k position out h r = rw (made_step position (length out) h r)

  -- all products are done, or there is no room
  pub run_done : (k position : ℕ) (out : List ℕ) → products l.sites ≤ position → sheet_bytes s ≤ length out → steps_from k s d position out ≡ record { next = position; out = out }
  run_done k position out h r = run_ends s d position out k (done_step position (length out) h r)

  pub run_full : (k position : ℕ) (out : List ℕ) → length out < sheet_bytes s → steps_from k s d position out ≡ record { next = position; out = out }
  run_full k position out r = run_stops s d position out k (refusal 9 0) (step_short s d position (length out) (whole d l e).short r)
