use Prim.Native.Nat.{ℕ, suc, ◌+◌, ◌-◌}
use mathlib.Core.Path.{◌≡◌, sym, ap, ◌∙◌}
use native.Mathlib.Numerals.{add-one}
use native.Mathlib.Omega.{arith}
use Rattle.shelf.specs.Shelf.{places_in, place_from, place_of}
use Rattle.shelf.specs.Places.{place_here, place_next, place_none, place_zero, place_some}
use Rattle.shelf.proofs.place_of.Goals as goal
use Rattle.shelf.proofs.place_of.Goals.{In-loop-i}

pub returns-then-number-eq0 : goal.returns-then-number-eq0
returns-then-number-eq0 c = let a = c.args in sym (place_zero a.book.now a.number c.if-number-eq0.true)

pub loop-i-init : goal.loop-i-init
loop-i-init c =
    let a = c.args in
    let e : places_in a.book.now - 0 ≡ places_in a.book.now = omega arith in
    (omega arith, place_some a.book.now a.number c.if-number-eq0.false ∙ ap (place_from a.book.now a.number 0) (sym e))

-- one place at least is left
left : (c : In-loop-i) → let a = c.args in let n = places_in a.book.now in
    place_of a.book.now a.number ≡ place_from a.book.now a.number c.loop-i.i (suc (n - (c.loop-i.i + 1)))
left c = let a = c.args in let n = places_in a.book.now in
    let e : n - c.loop-i.i ≡ suc (n - (c.loop-i.i + 1)) = omega arith in
    c.loop-i.invariant.1 ∙ ap (place_from a.book.now a.number c.loop-i.i) e

pub returns-then-number_at-number : goal.returns-then-number_at-number
returns-then-number_at-number c =
    let a = c.args in
    sym (left (goal.at.returns-then-number_at-number c).In-loop-i ∙ place_here a.book.now a.number _ _ (sym c.number_at.ensures ∙ c.if-number_at-number.true))

pub loop-i-preserved : goal.loop-i-preserved
loop-i-preserved c =
    let a = c.args in
    let i = c.loop-i.i in
    (omega arith, left (goal.at.loop-i-preserved c).In-loop-i ∙ place_next a.book.now a.number _ _ (λ e. c.if-number_at-number.false (c.number_at.ensures ∙ e)) ∙ ap (λ (j : ℕ). place_from a.book.now a.number j (places_in a.book.now - (i + 1))) (sym (add-one i)))

pub returns : goal.returns
returns c =
    let a = c.args in
    let n = places_in a.book.now in
    let i = c.loop-i.i in
    let e : n - i ≡ 0 = omega arith in
    let q : i ≡ n = omega (arith, c.loop-i.invariant.0) in
    sym (c.loop-i.invariant.1 ∙ ap (place_from a.book.now a.number i) e ∙ place_none a.book.now a.number i ∙ q)
