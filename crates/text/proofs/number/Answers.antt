use mathlib.Core.Path.{sym, ◌∙◌}
use mathlib.Core.Bool.{true, false}
use mathlib.Core.List.{[], ◌∷◌}
use Rattle.text.proofs.Numbers.{one_blank, no_digit, no_digits, all_digits_lem, behind_none, behind_two, value_three}
use native.Mathlib.Omega.{arith}
use Rattle.text.proofs.number.Goals as goal

-- `text::number` meets its contract. Assumes nothing.
pub returns-then-is_blank : goal.returns-then-is_blank
returns-then-is_blank c =
    let a = c.args in
    c.number_of_two.ensures ∙ sym (one_blank a.a (a.b ∷ a.c ∷ []) (sym c.is_blank.ensures ∙ c.if-is_blank.true))

pub returns-then-is_digit-3 : goal.returns-then-is_digit-3
returns-then-is_digit-3 c =
    let a = c.args in
    let n = sym c.is_blank.ensures ∙ c.if-is_blank.false in
    let d = sym c.is_digit.ensures ∙ c.if-is_digit.true in
    let e = sym c.is_digit-then-is_digit.ensures ∙ c.if-is_digit-2.true in
    let f = sym c.is_digit-then-is_digit-2.ensures ∙ c.if-is_digit-3.true in
    omega (arith, c.digit.ensures, c.digit-then-is_digit-3.ensures, c.digit-then-is_digit-3-2.ensures, all_digits_lem a.a (a.b ∷ a.c ∷ []) n d (behind_two a.b a.c true e f) ∙ value_three a.a a.b a.c)

pub returns-else-is_digit-3 : goal.returns-else-is_digit-3
returns-else-is_digit-3 c =
    let a = c.args in
    let n = sym c.is_blank.ensures ∙ c.if-is_blank.false in
    let e = sym c.is_digit-then-is_digit.ensures ∙ c.if-is_digit-2.true in
    sym (no_digits a.a (a.b ∷ a.c ∷ []) n (behind_two a.b a.c false e (sym c.is_digit-then-is_digit-2.ensures ∙ c.if-is_digit-3.false)))

pub returns-else-is_digit-2 : goal.returns-else-is_digit-2
returns-else-is_digit-2 c =
    let a = c.args in
    let n = sym c.is_blank.ensures ∙ c.if-is_blank.false in
    sym (no_digits a.a (a.b ∷ a.c ∷ []) n (behind_none a.b a.c (sym c.is_digit-then-is_digit.ensures ∙ c.if-is_digit-2.false)))

pub returns-else-is_digit : goal.returns-else-is_digit
returns-else-is_digit c =
    let a = c.args in
    let n = sym c.is_blank.ensures ∙ c.if-is_blank.false in
    sym (no_digit a.a (a.b ∷ a.c ∷ []) n (sym c.is_digit.ensures ∙ c.if-is_digit.false))
