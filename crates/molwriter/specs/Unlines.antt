-- Laws. A text made of lines: where each begins, and what stands in it. Assumes nothing.
use Prim.Native.Nat.{ℕ, zero, suc, ◌+◌, ◌-◌, ◌<◌, ◌≤◌}
use Rattle.std.specs.Prelude.{Bool, true, false, ◌&&◌, not, cond, ◌≡◌, eqb, ltb, get_or, take, drop}
use Rattle.std.proofs.Common.{true≢false, ◌∙◌, arith, ne_eqb, ltb-true, take-append-drop, drop-cons, take-suc, get_or-append-add}
use mathlib.Core.List.{List, [], ◌∷◌, ◌++◌, append_assoc}
use Rattle.std.proofs.Math.Path.{refl, sym, ap}
use Rattle.std.proofs.lemmas.Bool.{eqb-false}
use Rattle.std.proofs.Math.ListN.{length, length-append, get_or-append}
use Rattle.std.proofs.Math.Seq.{drop-append_seam}
use Rattle.text.specs.Text.{feed, carriage, character_at, until_feed, line_end, has_carriage, line_chars, next_line, later_line}
use Rattle.molwriter.specs.Written.{unlines}

-- no line feed and no carriage return
unfoldable pub is_plain : List ℕ → Bool
is_plain [] = true
is_plain (b ∷ bs) = not (eqb b feed) && not (eqb b carriage) && is_plain bs

unfoldable pub all_plain : List (List ℕ) → Bool
all_plain [] = true
all_plain (l ∷ ls) = is_plain l && all_plain ls

pub both : (p q : Bool) → (p && q) ≡ true → (p ≡ true) × (q ≡ true)
both true q e = (refl, e)
both false q e = absurd (true≢false (sym e))

plain_head : (b : ℕ) (bs : List ℕ) → is_plain (b ∷ bs) ≡ true → (eqb b feed ≡ false) × (eqb b carriage ≡ false) × (is_plain bs ≡ true)
unfolding is_plain
plain_head b bs e =
    let r = both (not (eqb b feed) && not (eqb b carriage)) (is_plain bs) e in
    let s = both (not (eqb b feed)) (not (eqb b carriage)) r.0 in
    (is_not (eqb b feed) s.0, is_not (eqb b carriage) s.1, r.1)
  where
    is_not : (t : Bool) → not t ≡ true → t ≡ false
    is_not true e = absurd (true≢false (sym e))
    is_not false e = refl

until_plain : (l rest : List ℕ) → is_plain l ≡ true → until_feed (l ++ (feed ∷ rest)) ≡ length l
unfolding until_feed
until_plain [] rest p = refl
until_plain (b ∷ bs) rest p = let r = plain_head b bs p in rw r.0 (ap suc (until_plain bs rest r.2))

plain_at : (l : List ℕ) (j : ℕ) → is_plain l ≡ true → j < length l → get_or l j 0 ≡ carriage → ⊥
plain_at [] j p h = absurd (omega arith)
plain_at (b ∷ bs) zero p h = eqb-false b carriage (plain_head b bs p).1
plain_at (b ∷ bs) (suc j) p h = plain_at bs j (plain_head b bs p).2 (omega arith)

-- a line l begins at a place
pub record LineOf (d : List ℕ) (at : ℕ) (l : List ℕ) : Type 0 where
  pub there : at < length d
  pub chars : line_chars d at ≡ length l
  pub next : next_line d at ≡ at + length l + 1
  pub bytes : (j : ℕ) → j < length l → character_at d (at + j) ≡ get_or l j 0

pub line_of : (before l rest : List ℕ) → is_plain l ≡ true → LineOf (before ++ (l ++ (feed ∷ rest))) (length before) l
unfolding line_chars has_carriage next_line line_end
line_of before l rest p =
    let d = before ++ (l ++ (feed ∷ rest)) in
    let at = length before in
    let u : until_feed (drop at d) ≡ length l = ap until_feed (drop-append_seam before (l ++ (feed ∷ rest))) ∙ until_plain l rest p in
    let n : length d ≡ at + (length l + suc (length rest)) = length-append before (l ++ (feed ∷ rest)) ∙ ap (λ (k : ℕ). at + k) (length-append l (feed ∷ rest)) in
    let byte : ((j : ℕ) → j < length l → character_at d (at + j) ≡ get_or l j 0) = λ j h. get_or-append-add before (l ++ (feed ∷ rest)) j 0 ∙ get_or-append l (feed ∷ rest) 0 j h in
    record {
      there = omega arith;
      chars = rw u (go d at byte (ltb at (at + length l)) (lt_of at) (ltb (at + length l) (length d)));
      next = rw u (omega arith);
      bytes = byte;
    }
  where
    lt_of : (at : ℕ) → ltb at (at + length l) ≡ true → 0 < length l
    lt_of at e = omega (arith, ltb-true at (at + length l) e)

    go : (d : List ℕ) (at : ℕ) → ((j : ℕ) → j < length l → character_at d (at + j) ≡ get_or l j 0) → (t : Bool) → (t ≡ true → 0 < length l) → (s : Bool)
        → at + length l - at - cond (s && t && eqb (character_at d (at + length l - 1)) carriage) 1 0 ≡ length l
    go d at byte true h false = omega arith
    go d at byte false h false = omega arith
    go d at byte false h true = omega arith
    go d at byte true h true =
        let z = h refl in
        let e : at + length l - 1 ≡ at + (length l - 1) = omega arith in
        let c : (character_at d (at + (length l - 1)) ≡ carriage → ⊥) = λ q. plain_at l (length l - 1) p (omega arith) (sym (byte (length l - 1) (omega arith)) ∙ q) in
        rw (e, ne_eqb (character_at d (at + (length l - 1))) carriage c) (omega arith)

-- the lines before, and those from a number on
pub unlines_append : (xs ys : List (List ℕ)) → unlines (xs ++ ys) ≡ unlines xs ++ unlines ys
unfolding unlines
unlines_append [] ys = refl
unlines_append (x ∷ xs) ys = ap (λ (t : List ℕ). x ++ (feed ∷ t)) (unlines_append xs ys) ∙ sym (append_assoc x (feed ∷ unlines xs) (unlines ys))

plain_of : (ls : List (List ℕ)) (k : ℕ) → all_plain ls ≡ true → k < length ls → is_plain (get_or ls k []) ≡ true
unfolding all_plain
plain_of [] k p h = absurd (omega arith)
plain_of (l ∷ ls) zero p h = (both (is_plain l) (all_plain ls) p).0
plain_of (l ∷ ls) (suc k) p h = plain_of ls k (both (is_plain l) (all_plain ls) p).1 (omega arith)

module _ (ls : List (List ℕ)) where
  cut : (k : ℕ) → k < length ls → unlines ls ≡ unlines (take k ls) ++ (get_or ls k [] ++ (feed ∷ unlines (drop (suc k) ls)))
  unfolding unlines
  cut k h = ap unlines (sym (take-append-drop k ls)) ∙ unlines_append (take k ls) (drop k ls) ∙ ap (λ (xs : List (List ℕ)). unlines (take k ls) ++ unlines xs) (drop-cons ls k [] h)

  pub line_at : (k : ℕ) → all_plain ls ≡ true → k < length ls → LineOf (unlines ls) (length (unlines (take k ls))) (get_or ls k [])
  line_at k p h = rw (cut k h) (line_of (unlines (take k ls)) (get_or ls k []) (unlines (drop (suc k) ls)) (plain_of ls k p h))

  take-length : (k : ℕ) → k < length ls → length (unlines (take (suc k) ls)) ≡ length (unlines (take k ls)) + length (get_or ls k []) + 1
  unfolding unlines
  take-length k h =
      ap (λ (xs : List (List ℕ)). length (unlines xs)) (take-suc ls k [] h)
      ∙ ap length (unlines_append (take k ls) (get_or ls k [] ∷ []))
      ∙ length-append (unlines (take k ls)) (get_or ls k [] ++ (feed ∷ []))
      ∙ omega (arith, length-append (get_or ls k []) (feed ∷ []))

  pub later_is : (k : ℕ) → all_plain ls ≡ true → k ≤ length ls → later_line (unlines ls) 0 k ≡ length (unlines (take k ls))
  unfolding later_line unlines
  later_is zero p h = refl
  later_is (suc k) p h = ap (next_line (unlines ls)) (later_is k p (omega arith)) ∙ (line_at k p (omega arith)).next ∙ sym (take-length k (omega arith))

  -- the line of a number
  pub line_later : (k : ℕ) → all_plain ls ≡ true → k < length ls → LineOf (unlines ls) (later_line (unlines ls) 0 k) (get_or ls k [])
  line_later k p h = rw (later_is k p (omega arith)) (line_at k p h)

  pub rest_later : (k : ℕ) → all_plain ls ≡ true → k ≤ length ls → drop (later_line (unlines ls) 0 k) (unlines ls) ≡ unlines (drop k ls)
  rest_later k p h =
      let e = ap unlines (sym (take-append-drop k ls)) ∙ unlines_append (take k ls) (drop k ls) in
      ap (λ (n : ℕ). drop n (unlines ls)) (later_is k p h) ∙ ap (drop (length (unlines (take k ls)))) e ∙ drop-append_seam (unlines (take k ls)) (unlines (drop k ls))

pub later_later : (d : List ℕ) (at j k : ℕ) → later_line d (later_line d at j) k ≡ later_line d at (j + k)
unfolding later_line
later_later d at j zero = let e : j + 0 ≡ j = omega arith in rw e
later_later d at j (suc k) = let e : j + suc k ≡ suc (j + k) = omega arith in rw e (ap (next_line d) (later_later d at j k))
