-- Laws. Whether bytes, or lines of them, begin with a word. Assumes nothing.
use Prim.Native.Nat.{ℕ, suc, ◌+◌, ◌<◌, ◌≤◌, min}
use mathlib.Core.Bool.{Bool, true, false}
use mathlib.Core.List.{List, [], ◌∷◌}
use mathlib.Core.Path.{◌≡◌, refl, sym, ◌∙◌, ap}
use native.Mathlib.Omega.{arith}
use native.Mathlib.Decide.{ℕ_discrete}
use native.Mathlib.Numerals.{add-one}
use borrow.Author.Tests.{eq-eqb, ne_eqb}
use lib.Dec.{eqb}
use lib.ListN.{length, get_or, drop, drop_of_length-le}
use lib.Seq.{drop-cons, drop-drop, drop-length}
use Rattle.reply.specs.Read.{if_else}
use Rattle.text.specs.Text.{feed, until_feed, line_end, next_line, starts_with, line_starts}
use Rattle.text.specs.Laws.{end_within}

-- byte by byte
module _ (word d : List ℕ) (i : ℕ) where
  pub word_done : length word ≤ i → starts_with (drop i word) (drop i d) ≡ true
  unfolding starts_with
  word_done h = rw (drop_of_length-le word h)

  module _ (l : i < length word) where
    pub word_short : length d ≤ i → starts_with (drop i word) (drop i d) ≡ false
    unfolding starts_with
    word_short h = rw (drop-cons word i 0 l, drop_of_length-le d h)

    module _ (h : i < length d) where
      pub word_other : (get_or d i 0 ≡ get_or word i 0 → ⊥) → starts_with (drop i word) (drop i d) ≡ false
      unfolding starts_with
      word_other e = rw (drop-cons word i 0 l, drop-cons d i 0 h, ne_eqb (get_or d i 0) (get_or word i 0) e)

      pub word_more : get_or d i 0 ≡ get_or word i 0 → starts_with (drop i word) (drop i d) ≡ starts_with (drop (i + 1) word) (drop (i + 1) d)
      unfolding starts_with
      word_more e = rw (add-one i, drop-cons word i 0 l, drop-cons d i 0 h, eq-eqb (get_or d i 0) (get_or word i 0) e)

-- line by line
module _ (word : List ℕ) where
  behind : (b : ℕ) (bs : List ℕ) → (line_starts word false bs ≡ line_starts word true (drop (until_feed bs + 1) bs))
      → line_starts word (eqb b feed) bs ≡ line_starts word true (drop (until_feed (b ∷ bs) + 1) (b ∷ bs))
  unfolding until_feed
  behind b bs ih = go (eqb b feed)
    where
      go : (t : Bool) → line_starts word t bs ≡ line_starts word true (drop (if_else t (λ _. 0) (λ _. suc (until_feed bs)) + 1) (b ∷ bs))
      go true = refl
      go false = ih ∙ rw (add-one (until_feed bs), add-one (suc (until_feed bs)))

  -- a line that is gone on with begins with no word
  gone_on : (xs : List ℕ) → line_starts word false xs ≡ line_starts word true (drop (until_feed xs + 1) xs)
  unfolding line_starts until_feed
  gone_on [] = refl
  gone_on (b ∷ bs) = behind b bs (gone_on bs)

  passed_on : (xs : List ℕ) → starts_with word xs ≡ false → line_starts word true xs ≡ line_starts word true (drop (until_feed xs + 1) xs)
  unfolding line_starts until_feed
  passed_on [] e = refl
  passed_on (b ∷ bs) e = rw e (behind b bs (gone_on bs))

  module _ (d : List ℕ) (at : ℕ) where
    pub starts_past : length d ≤ at → line_starts word true (drop at d) ≡ false
    unfolding line_starts
    starts_past h = rw (drop_of_length-le d h)

    pub starts_here : at < length d → starts_with word (drop at d) ≡ true → line_starts word true (drop at d) ≡ true
    unfolding line_starts
    starts_here h e = let f = rw (drop-cons d at 0 h) at e in rw (drop-cons d at 0 h, f)

    pub starts_later : at < length d → starts_with word (drop at d) ≡ false → line_starts word true (drop at d) ≡ line_starts word true (drop (next_line d at) d)
    unfolding next_line line_end
    starts_later h e =
        passed_on (drop at d) e
        ∙ ap (line_starts word true) (drop-drop (until_feed (drop at d) + 1) at d ∙ rest (ℕ_discrete (at + until_feed (drop at d)) (length d)))
      where
        rest : Dec (at + until_feed (drop at d) ≡ length d) → drop (at + (until_feed (drop at d) + 1)) d ≡ drop (min (at + until_feed (drop at d) + 1) (length d)) d
        rest (yes p) =
            let m : min (at + until_feed (drop at d) + 1) (length d) ≡ length d = omega arith in
            let n : length d ≤ at + (until_feed (drop at d) + 1) = omega arith in
            rw (m, drop_of_length-le d n) (sym (drop-length d))
        rest (no p) =
            let w : at + until_feed (drop at d) ≤ length d = end_within d at (omega arith) in
            let m : min (at + until_feed (drop at d) + 1) (length d) ≡ at + (until_feed (drop at d) + 1) = omega arith in
            rw m
