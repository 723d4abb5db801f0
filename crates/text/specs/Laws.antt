-- Laws. Lines lie within the file, and a number of three characters is below 1000. Assumes nothing.
use Rattle.std.specs.Prelude.{ℕ, suc, ◌+◌, ◌*◌, ◌≤◌, ◌<◌, Bool, ◌&&◌, List, [], ◌∷◌, ◌≡◌, eqb, leb, length, drop}
use Rattle.std.proofs.Math.Bool.{true, false, cond}
use Rattle.std.proofs.Common.{true≢false, sym, arith, add-one, leb-true, length-drop}
use Rattle.std.proofs.Math.Path.{refl}
use Rattle.reply.specs.Read.{if_else}
use Rattle.text.specs.Text.{feed, is_blank, is_digit, digit, all_digits, is_number, value_from, number_of, until_feed, line_end, line_chars, next_line, later_line}
use Rattle.text.specs.Said.{no_number, field_number, line_at}
use Rattle.text.specs.declared.Line.{Line}

until_within : (xs : List ℕ) → until_feed xs ≤ length xs
unfolding until_feed
until_within [] = omega arith
until_within (b ∷ bs) = go (eqb b feed) (until_within bs)
  where
    go : (t : Bool) → until_feed bs ≤ length bs → if_else t (λ _. 0) (λ _. suc (until_feed bs)) ≤ suc (length bs)
    go true h = omega arith
    go false h = omega arith

pub end_within : (d : List ℕ) (at : ℕ) → at ≤ length d → line_end d at ≤ length d
unfolding line_end
end_within d at h = omega (arith, until_within (drop at d), length-drop at d)

pub end_from : (d : List ℕ) (at : ℕ) → at ≤ line_end d at
unfolding line_end
end_from d at = omega arith

pub chars_within : (d : List ℕ) (at : ℕ) → at ≤ length d → at + line_chars d at ≤ length d
unfolding line_chars
chars_within d at h = omega (arith, end_within d at h, end_from d at)

pub next_within : (d : List ℕ) (at : ℕ) → next_line d at ≤ length d
unfolding next_line
next_within d at = omega arith

-- the next line begins later
pub next_later : (d : List ℕ) (at : ℕ) → at < length d → at < next_line d at
unfolding next_line
next_later d at h = omega (arith, end_from d at)

pub later_more : (d : List ℕ) (at k : ℕ) → later_line d at (k + 1) ≡ next_line d (later_line d at k)
unfolding later_line
later_more d at k = rw (add-one k)

-- what the code's line says
pub said_chars : (d : List ℕ) (at : ℕ) {l : Line} → l ≡ line_at d at → l.chars ≡ line_chars d at
unfolding line_at
said_chars d at e = rw e

pub said_next : (d : List ℕ) (at : ℕ) {l : Line} → l ≡ line_at d at → l.next ≡ next_line d at
unfolding line_at
said_next d at e = rw e

-- a number of three characters is below 1000
both : (p q : Bool) → (p && q) ≡ true → (p ≡ true) × (q ≡ true)
both true q e = (refl, e)
both false q e = absurd (true≢false (sym e))

digit_below : (b : ℕ) → is_digit b ≡ true → digit b ≤ 9
digit_below b e = let r = both (leb 48 b) (leb b 57) e in let l : b ≤ 57 = leb-true b 57 r.1 in omega arith

one_below : (c : ℕ) → is_number (c ∷ []) ≡ true → number_of (c ∷ []) ≤ 9
unfolding is_number all_digits number_of value_from
one_below c e = go (is_blank c) e
  where
    go : (t : Bool) → cond t false (is_digit c && true) ≡ true → cond t 0 (10 * 0 + digit c) ≤ 9
    go true f = omega arith
    go false f = omega (arith, digit_below c (both (is_digit c) true f).0)

two_below : (b c : ℕ) → is_number (b ∷ c ∷ []) ≡ true → number_of (b ∷ c ∷ []) ≤ 99
unfolding is_number all_digits number_of value_from
two_below b c e = go (is_blank b) e
  where
    go : (t : Bool) → cond t (is_number (c ∷ [])) (is_digit b && (is_digit c && true)) ≡ true → cond t (number_of (c ∷ [])) (10 * (10 * 0 + digit b) + digit c) ≤ 99
    go true f = omega (arith, one_below c f)
    go false f =
        let r = both (is_digit b) (is_digit c && true) f in
        omega (arith, digit_below b r.0, digit_below c (both (is_digit c) true r.1).0)

pub three_below : (a b c : ℕ) → is_number (a ∷ b ∷ c ∷ []) ≡ true → number_of (a ∷ b ∷ c ∷ []) < 1000
unfolding is_number all_digits number_of value_from
three_below a b c e = go (is_blank a) e
  where
    go : (t : Bool) → cond t (is_number (b ∷ c ∷ [])) (is_digit a && (is_digit b && (is_digit c && true))) ≡ true
        → cond t (number_of (b ∷ c ∷ [])) (10 * (10 * (10 * 0 + digit a) + digit b) + digit c) < 1000
    go true f = omega (arith, two_below b c f)
    go false f =
        let r = both (is_digit a) (is_digit b && (is_digit c && true)) f in
        let s = both (is_digit b) (is_digit c && true) r.1 in
        omega (arith, digit_below a r.0, digit_below b s.0, digit_below c (both (is_digit c) true s.1).0)

-- what the code's number says: 1000 where there is none
module _ (a b c : ℕ) (r : ℕ) (is : r ≡ field_number (a ∷ b ∷ c ∷ [])) where
  pub no_number_lem : r ≡ no_number → is_number (a ∷ b ∷ c ∷ []) ≡ false
  unfolding field_number
  no_number_lem e = go (is_number (a ∷ b ∷ c ∷ [])) (three_below a b c) is
    where
      go : (t : Bool) → (t ≡ true → number_of (a ∷ b ∷ c ∷ []) < 1000) → r ≡ cond t (number_of (a ∷ b ∷ c ∷ [])) no_number → t ≡ false
      go true h f = absurd (omega (arith, h refl))
      go false h f = refl

  pub is_number_lem : (r ≡ no_number → ⊥) → (is_number (a ∷ b ∷ c ∷ []) ≡ true) × (r ≡ number_of (a ∷ b ∷ c ∷ []))
  unfolding field_number
  is_number_lem e = go (is_number (a ∷ b ∷ c ∷ [])) is
    where
      go : (t : Bool) → r ≡ cond t (number_of (a ∷ b ∷ c ∷ [])) no_number → (t ≡ true) × (r ≡ number_of (a ∷ b ∷ c ∷ []))
      go true f = (refl, f)
      go false f = absurd (e f)
