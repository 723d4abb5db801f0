-- Laws. Whether <NAME> stands at a place, and whether it stands somewhere. Assumes nothing.
use Prim.Native.Nat.{ℕ, suc, ◌+◌, ◌-◌, ◌<◌, ◌≤◌}
use mathlib.Core.Bool.{Bool, true, false, ◌&&◌, true≢false}
use mathlib.Core.List.{List, [], ◌∷◌, ◌++◌}
use mathlib.Core.Path.{◌≡◌, refl, sym, ◌∙◌}
use native.Mathlib.Omega.{arith}
use native.Mathlib.Numerals.{add-one}
use borrow.Author.Tests.{eq-eqb, ne_eqb}
use lib.Dec.{eqb}
use lib.ListN.{length, get_or, take, drop, drop_of_length-le, length-drop, length-append}
use lib.Seq.{drop-cons, drop-drop}
use Rattle.text.specs.Text.{ascii, until_feed, line_end, starts_with}
use Rattle.sdfile.specs.Sdf.{tagged, has_name, is_header, stands, opens, closes, has_tag, is_some_header}

and_false : (t : Bool) → (t && false) ≡ false
and_false true = refl
and_false false = refl

and_true : (t : Bool) → (t && true) ≡ t
and_true true = refl
and_true false = refl

-- two words in a row
starts_append : (u w xs : List ℕ) → starts_with (u ++ w) xs ≡ (starts_with u xs && starts_with w (drop (length u) xs))
unfolding starts_with
starts_append [] w xs = refl
starts_append (a ∷ u) w [] = refl
starts_append (a ∷ u) w (x ∷ xs) = go (eqb x a) (starts_append u w xs)
  where
    go : (t : Bool) → starts_with (u ++ w) xs ≡ (starts_with u xs && starts_with w (drop (length u) xs))
        → (t && starts_with (u ++ w) xs) ≡ ((t && starts_with u xs) && starts_with w (drop (length u) xs))
    go true h = h
    go false h = refl

starts_long : (u xs : List ℕ) → starts_with u xs ≡ true → length u ≤ length xs
unfolding starts_with
starts_long [] xs e = omega arith
starts_long (a ∷ u) [] e = absurd (true≢false (sym e))
starts_long (a ∷ u) (x ∷ xs) e = go (eqb x a) e (λ f. starts_long u xs f)
  where
    go : (t : Bool) → (t && starts_with u xs) ≡ true → (starts_with u xs ≡ true → length u ≤ length xs) → suc (length u) ≤ suc (length xs)
    go true f h = omega (arith, h f)
    go false f h = absurd (true≢false (sym f))

starts_short : (u xs : List ℕ) → length xs < length u → starts_with u xs ≡ false
starts_short u xs h = go (starts_with u xs) refl
  where
    go : (t : Bool) → starts_with u xs ≡ t → t ≡ false
    go true e = absurd (omega (arith, starts_long u xs e))
    go false e = refl

-- at a place, test by test
module _ (d name : List ℕ) (at : ℕ) (h : at < length d) where
  first_byte : starts_with (tagged name) (drop at d) ≡ (eqb (get_or d at 0) 60 && starts_with (name ++ ascii ">") (drop (at + 1) d))
  unfolding starts_with
  first_byte = rw (add-one at, drop-cons d at 0 h)

  pub tag_other : (get_or d at 0 ≡ 60 → ⊥) → starts_with (tagged name) (drop at d) ≡ false
  tag_other e = first_byte ∙ rw (ne_eqb (get_or d at 0) 60 e)

  pub tag_short : length d - (at + 1) ≤ length name → starts_with (tagged name) (drop at d) ≡ false
  tag_short l =
      first_byte
      ∙ rw (starts_short (name ++ ascii ">") (drop (at + 1) d) (omega (arith, length-drop (at + 1) d, length-append name (ascii ">"))))
      (and_false (eqb (get_or d at 0) 60))

  pub tag_not : starts_with name (drop (at + 1) d) ≡ false → starts_with (tagged name) (drop at d) ≡ false
  tag_not e = first_byte ∙ rw (starts_append name (ascii ">") (drop (at + 1) d), e) (and_false (eqb (get_or d at 0) 60))

  pub tag_is : get_or d at 0 ≡ 60 → length name < length d - (at + 1) → starts_with name (drop (at + 1) d) ≡ true → starts_with (tagged name) (drop at d) ≡ eqb (get_or d (at + 1 + length name) 0) 62
  unfolding starts_with
  tag_is e l s =
      first_byte
      ∙ rw (eq-eqb (get_or d at 0) 60 e, starts_append name (ascii ">") (drop (at + 1) d), s, drop-drop (length name) (at + 1) d, drop-cons d (at + 1 + length name) 0 (omega arith))
      (and_true (eqb (get_or d (at + 1 + length name) 0) 62))

-- somewhere, place by place
module _ (word d : List ℕ) (i : ℕ) where
  pub holds_past : length d ≤ i → has_name word (drop i d) ≡ false
  unfolding has_name
  holds_past h = rw (drop_of_length-le d h)

  module _ (h : i < length d) where
    pub holds_here : starts_with word (drop i d) ≡ true → has_name word (drop i d) ≡ true
    unfolding has_name
    holds_here e = let f = rw (drop-cons d i 0 h) at e in rw (drop-cons d i 0 h, f)

    pub holds_later : starts_with word (drop i d) ≡ false → has_name word (drop i d) ≡ has_name word (drop (i + 1) d)
    unfolding has_name
    holds_later e = let f = rw (drop-cons d i 0 h) at e in rw (add-one i, drop-cons d i 0 h, f)

-- a header begins with > and holds it in its line
module _ (d : List ℕ) (at : ℕ) (h : at < length d) where
  header_first : starts_with (ascii ">") (drop at d) ≡ eqb (get_or d at 0) 62
  unfolding starts_with
  header_first = rw (drop-cons d at 0 h) (and_true (eqb (get_or d at 0) 62))

  pub header_not : (name : List ℕ) → (get_or d at 0 ≡ 62 → ⊥) → is_header name (drop at d) ≡ false
  unfolding is_header
  header_not name e = rw (header_first, ne_eqb (get_or d at 0) 62 e)

  pub header_is : (name : List ℕ) → get_or d at 0 ≡ 62 → (end : ℕ) → end ≡ line_end d at → is_header name (drop at d) ≡ has_name (tagged name) (take (end - at) (drop at d))
  unfolding is_header line_end
  header_is name e end p = let n : until_feed (drop at d) ≡ end - at = omega arith in rw (header_first, eq-eqb (get_or d at 0) 62 e, n)

  pub some_not : (get_or d at 0 ≡ 62 → ⊥) → is_some_header (drop at d) ≡ false
  unfolding is_some_header
  some_not e = rw (header_first, ne_eqb (get_or d at 0) 62 e)

  pub some_is : get_or d at 0 ≡ 62 → (end : ℕ) → end ≡ line_end d at → is_some_header (drop at d) ≡ has_tag (take (end - at) (drop at d))
  unfolding is_some_header line_end
  some_is e end p = let n : until_feed (drop at d) ≡ end - at = omega arith in rw (header_first, eq-eqb (get_or d at 0) 62 e, n)

-- a byte, and a tag of some name, place by place
module _ (c : ℕ) (d : List ℕ) (i : ℕ) where
  pub stands_past : length d ≤ i → stands c (drop i d) ≡ false
  unfolding stands
  stands_past h = rw (drop_of_length-le d h)

  pub stands_here : i < length d → get_or d i 0 ≡ c → stands c (drop i d) ≡ true
  unfolding stands
  stands_here h e = rw (drop-cons d i 0 h, eq-eqb (get_or d i 0) c e)

  pub stands_later : i < length d → (get_or d i 0 ≡ c → ⊥) → stands c (drop i d) ≡ stands c (drop (i + 1) d)
  unfolding stands
  stands_later h e = rw (add-one i, drop-cons d i 0 h, ne_eqb (get_or d i 0) c e)

module _ (d : List ℕ) (i : ℕ) where
  pub tagged_past : length d ≤ i → has_tag (drop i d) ≡ false
  unfolding has_tag
  tagged_past h = rw (drop_of_length-le d h)

  pub tagged_here : i < length d → get_or d i 0 ≡ opens → has_tag (drop i d) ≡ stands closes (drop (i + 1) d)
  unfolding has_tag
  tagged_here h e = rw (add-one i, drop-cons d i 0 h, eq-eqb (get_or d i 0) opens e)

  pub tagged_later : i < length d → (get_or d i 0 ≡ opens → ⊥) → has_tag (drop i d) ≡ has_tag (drop (i + 1) d)
  unfolding has_tag
  tagged_later h e = rw (add-one i, drop-cons d i 0 h, ne_eqb (get_or d i 0) opens e)
