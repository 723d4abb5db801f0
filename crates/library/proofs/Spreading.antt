-- The buffer of a run, sheet by sheet. Assumes nothing.
use Prim.Native.Nat.{ℕ, suc, ◌+◌, ◌-◌, ◌≤◌, ◌<◌}
use mathlib.Core.Bool.{Bool, true, false, cond}
use mathlib.Core.List.{List, ◌++◌, append_assoc, append-nil}
use mathlib.Core.Path.{◌≡◌, refl, sym, ◌∙◌, ap, ap₂}
use native.Mathlib.Omega.{arith}
use borrow.Author.Tests.{le-ltb, ltb-true, ltb-false}
use lib.Dec.{ltb}
use lib.ListN.{length, take, drop, length-append, length-drop, take-append-drop, drop_of_length-le}
use lib.Seq.{take_at, take_all, drop_at, length-take-le}
use Rattle.reply.specs.Read.{read}
use Rattle.block.specs.declared.Indices.{Indices}
use Rattle.records.specs.declared.Sheet.{Sheet}
use Rattle.sheets.specs.Sheets.{fields_of, sheet_record, sheet_bytes, sheet_put}
use Rattle.sheets.specs.Back.{length_sheet}
use Rattle.catalogue.specs.Library.{Library, library_reply}
use Rattle.catalogue.specs.Products.{products, product_at}
use Rattle.library.specs.Steps.{Ran, behind, steps_from}
use Rattle.library.specs.Running.{run_next, run_done, run_full}
use Rattle.library.specs.Turning.{Going}

-- how far a run has come
pub going_start : (s : Sheet) (d : List ℕ) (p : ℕ) (out : List ℕ) → Going s d (steps_from (length out) s d p out) out p 0
going_start s d p out = record { fuel = length out; within = omega arith; lasts = omega arith; same = refl }

-- bytes put behind the first ones
module _ (first bytes rest : List ℕ) (at n : ℕ) (a : length first ≡ at) (b : length bytes ≡ n) where
  both_long : length (first ++ bytes) ≡ at + n
  both_long = length-append first bytes ∙ ap₂ ◌+◌ a b

  pub put_taken : take (at + n) (first ++ (bytes ++ rest)) ≡ first ++ bytes
  put_taken = ap (take (at + n)) (sym (append_assoc first bytes rest)) ∙ take_at (first ++ bytes) rest (at + n) both_long

  pub put_left : drop (at + n) (first ++ (bytes ++ rest)) ≡ rest
  put_left = ap (drop (at + n)) (sym (append_assoc first bytes rest)) ∙ drop_at (first ++ bytes) rest (at + n) both_long

  pub put_behind : (r : Ran) → behind first (behind bytes r) ≡ behind (first ++ bytes) r
  put_behind r = ap (λ (x : List ℕ). record { next = r.next; out = x }) (sym (append_assoc first bytes r.out))

-- a sheet put into what is left of a buffer
put_room : (s : Sheet) (out : List ℕ) (x : Indices) → sheet_bytes s ≤ length out → sheet_put s out (fields_of s x) ≡ sheet_record s (fields_of s x) ++ drop (sheet_bytes s) out
unfolding sheet_put
put_room s out x h = rw (le-ltb (length out) (sheet_bytes s) h)

module _ (s : Sheet) (d : List ℕ) (l : Library) (e : library_reply d ≡ read l) {whole : Ran} {out : List ℕ} {p at : ℕ} (g : Going s d whole out p at) where
  -- nothing more: the buffer is as it is
  ends : steps_from g.fuel s d p (drop at out) ≡ record { next = p; out = drop at out } → whole ≡ record { next = p; out = out }
  ends h = g.same ∙ ap (behind (take at out)) h ∙ ap (λ (x : List ℕ). record { next = p; out = x }) (take-append-drop at out)

  pub going_full : length out - at < sheet_bytes s → whole ≡ record { next = p; out = out }
  going_full h = ends (run_full s d l e g.fuel p (drop at out) (omega (arith, length-drop at out)))

  pub going_done : products l.sites ≤ p → whole ≡ record { next = p; out = out }
  going_done h = go (ltb (length (drop at out)) (sheet_bytes s)) refl
    where
      go : (t : Bool) → ltb (length (drop at out)) (sheet_bytes s) ≡ t → whole ≡ record { next = p; out = out }
      go true q = ends (run_full s d l e g.fuel p (drop at out) (ltb-true (length (drop at out)) (sheet_bytes s) q))
      go false q = ends (run_done s d l e g.fuel p (drop at out) h (ltb-false (length (drop at out)) (sheet_bytes s) q))

  -- one sheet more
  pub going_next : p < products l.sites → sheet_bytes s ≤ length out - at → 1 ≤ sheet_bytes s → (x : Indices) → x ≡ product_at d l p → (new : List ℕ)
      → new ≡ take at out ++ sheet_put s (drop at out) (fields_of s x) → Going s d whole new (p + 1) (at + sheet_bytes s)
  going_next h r some x q new n =
      let first = take at out in
      let bytes = sheet_record s (fields_of s x) in
      let rest = drop (sheet_bytes s) (drop at out) in
      let a : length first ≡ at = length-take-le at out g.within in
      let b : length bytes ≡ sheet_bytes s = length_sheet s x in
      let room : sheet_bytes s ≤ length (drop at out) = omega (arith, length-drop at out) in
      let m : new ≡ first ++ (bytes ++ rest) = n ∙ ap (λ (y : List ℕ). first ++ y) (put_room s (drop at out) x room) in
      let size : length new ≡ at + (sheet_bytes s + length rest) = ap length m ∙ length-append first (bytes ++ rest) ∙ ap₂ ◌+◌ a (length-append bytes rest ∙ ap (λ (y : ℕ). y + length rest) b) in
      let k = g.fuel - 1 in
      let f : g.fuel ≡ suc k = omega (arith, g.lasts, r, some) in
      let z : suc p ≡ p + 1 = omega arith in
      record {
        fuel = k;
        within = omega (arith, size);
        lasts = omega (arith, size, length-drop (sheet_bytes s) (drop at out), length-drop at out, g.lasts, some);
        same =
            g.same
            ∙ ap (λ (y : ℕ). behind first (steps_from y s d p (drop at out))) f
            ∙ ap (behind first) (run_next s d l e k p (drop at out) h room ∙ ap (λ (y : Indices). behind (sheet_record s (fields_of s y)) (steps_from k s d (suc p) rest)) (sym q))
            ∙ put_behind first bytes rest at (sheet_bytes s) a b (steps_from k s d (suc p) rest)
            ∙ ap₂ (λ (v w : List ℕ). behind v (steps_from k s d (suc p) w)) (sym (ap (take (at + sheet_bytes s)) m ∙ put_taken first bytes rest at (sheet_bytes s) a b)) (sym (ap (drop (at + sheet_bytes s)) m ∙ put_left first bytes rest at (sheet_bytes s) a b))
            ∙ ap (λ (y : ℕ). behind (take (at + sheet_bytes s) new) (steps_from k s d y (drop (at + sheet_bytes s) new))) z;
      }

-- the rest of a buffer, lent and written
pub lent_whole : (s : Sheet) (out : List ℕ) (x : Indices) (at : ℕ) (ys : List ℕ) → let m = length out - at in ys ≡ sheet_put s (take m (drop at out)) (fields_of s x)
    → take at out ++ (ys ++ drop m (drop at out)) ≡ take at out ++ sheet_put s (drop at out) (fields_of s x)
lent_whole s out x at ys e =
    let m = length out - at in
    let short : length (drop at out) ≤ m = omega (arith, length-drop at out) in
    ap (λ (z : List ℕ). take at out ++ z)
    (ap (λ (z : List ℕ). ys ++ z) (drop_of_length-le (drop at out) short) ∙ append-nil ys ∙ e ∙ ap (λ (z : List ℕ). sheet_put s z (fields_of s x)) (take_all m (drop at out) short))

pub some_bytes : (s : Sheet) → 1 ≤ sheet_bytes s
some_bytes s = omega arith

length_put : (s : Sheet) (out : List ℕ) (x : Indices) → length (sheet_put s out (fields_of s x)) ≡ length out
unfolding sheet_put
length_put s out x = go (ltb (length out) (sheet_bytes s)) refl
  where
    go : (t : Bool) → ltb (length out) (sheet_bytes s) ≡ t → length (cond t out (sheet_record s (fields_of s x) ++ drop (sheet_bytes s) out)) ≡ length out
    go true q = refl
    go false q = length-append (sheet_record s (fields_of s x)) (drop (sheet_bytes s) out) ∙ omega (arith, length_sheet s x, length-drop (sheet_bytes s) out, ltb-false (length out) (sheet_bytes s) q)

pub lent_long : (s : Sheet) (out : List ℕ) (x : Indices) (at : ℕ) → at ≤ length out → length (take at out ++ sheet_put s (drop at out) (fields_of s x)) ≡ length out
lent_long s out x at h = length-append (take at out) (sheet_put s (drop at out) (fields_of s x)) ∙ omega (arith, length-take-le at out h, length_put s (drop at out) x, length-drop at out)
