use Prim.Native.Nat.{ℕ, ◌+◌, ◌*◌, ◌-◌, ◌^◌, ◌<◌}
use mathlib.Core.Path.{◌≡◌, refl, ◌∙◌, ap, subst}
use native.Mathlib.Omega.{arith}
use lib.ListN.{length, set, length-set}
use borrow.Author.Rules.{rules}
use Rattle.arms.specs.Arms.{joined_to}
use Rattle.catalogue.specs.Products.{product_at}
use Rattle.library.specs.Values.{values_of}
use Rattle.library.specs.Filled.{Filled, filled_next}
use Rattle.arms.specs.declared.Arm.{Arm}
use Rattle.library.proofs.Filling.{value_said}
use Rattle.library.proofs.last.turn_values.Goals as goal
use Rattle.library.proofs.last.turn_values.Goals.{Start}

-- the row's bytes can be counted
short : (c : Start) → length c.args.row.now * 8 < 2 ^ 63
short c = search rules

pub loop-i-init : goal.loop-i-init
loop-i-init c = let a = c.args in let p = c.requires in
    let z : a.start ≡ a.start + 0 = omega arith in
    (refl, omega arith, omega (arith, p.start_lt_end.0), λ d l position old t f. subst (λ (m : ℕ). Filled (values_of d l a.field position) old a.row.now m) z f)

pub overflow_add-at : goal.overflow_add-at
overflow_add-at c = omega (arith, c.loop-i.invariant.2, c.requires.start_lt_end.1, short (goal.at.overflow_add-at c).Start)

pub returns-then-at-end : goal.returns-then-at-end
returns-then-at-end c = let a = c.args in let p = c.requires.start_lt_end in let r = c.loop-i in
    record { on = (p.0, omega arith); fills = λ d l position old t f. subst (λ (m : ℕ). Filled (values_of d l a.field position) old r.row m) c.if-at-end.true (r.invariant.3 d l position old t f) }

pub overflow_add-place : goal.overflow_add-place
overflow_add-place c = let (d, l, position, t) = c.requires.by_index in omega (arith, t.stands, c.loop-i-test.true)

pub offset_bounds-all-place : goal.offset_bounds-all-place
offset_bounds-all-place c = let (d, l, position, t) = c.requires.by_index in omega (arith, t.stands, c.loop-i-test.true)

pub bounds-all-place : goal.bounds-all-place
bounds-all-place c = let (d, l, position, t) = c.requires.by_index in omega (arith, t.stands, c.loop-i-test.true)

pub field_of-requires : goal.field_of-requires
field_of-requires c = let p = c.requires.start_lt_end in (p.2, p.3)

pub offset_bounds-row-at : goal.offset_bounds-row-at
offset_bounds-row-at c = omega (arith, short (goal.at.offset_bounds-row-at c).Start, c.loop-i.invariant.2, c.requires.start_lt_end.1)

pub bounds-row-at : goal.bounds-row-at
bounds-row-at c = omega (arith, c.loop-i.invariant.0, c.loop-i.invariant.2, c.if-at-end.false, c.requires.start_lt_end.1)

pub overflow_add-i : goal.overflow_add-i
overflow_add-i c = let (d, l, position, t) = c.requires.by_index in omega (arith, t.stands, c.loop-i-test.true)

pub loop-i-preserved : goal.loop-i-preserved
loop-i-preserved c = let a = c.args in let r = c.loop-i in let p = c.requires.start_lt_end in
    let test = c.loop-i-test.true in
    let low : a.start + r.i < a.end = omega (arith, r.invariant.2, c.if-at-end.false) in
    let made = c.joined-x.result in
    let z : a.start + r.i + 1 ≡ a.start + (r.i + 1) = omega arith in (
      length-set r.row (a.start + r.i) c.field_of.result ∙ r.invariant.0,
      omega (arith, test),
      omega (arith, low),
      λ d l position old t f.
          let q : position + a.start + r.i ≡ position + (a.start + r.i) = omega arith in
          let same : made ≡ product_at d l (position + (a.start + r.i)) =
          c.joined-x.ensures
          ∙ ap (λ (arm : Arm). joined_to a.stay.stem arm) c.row_arm-arm.ensures
          ∙ t.same r.i test ∙ ap (product_at d l) q in
          subst (λ (m : ℕ). Filled (values_of d l a.field position) old (set r.row (a.start + r.i) c.field_of.result) m) z
          (filled_next (r.invariant.3 d l position old t f) (omega (arith, low, r.invariant.0, p.1)) c.field_of.result (value_said d l a.field (position + (a.start + r.i)) c.field_of.result made c.field_of.ensures same)),
    )

pub overflow_add-result : goal.overflow_add-result
overflow_add-result c = omega (arith, c.loop-i.invariant.2, c.requires.start_lt_end.1, short (goal.at.overflow_add-result c).Start)

pub returns : goal.returns
returns c = let (d, l, position, t) = c.requires.by_index in let r = c.loop-i in
    record { on = (omega (arith, t.some, c.loop-i-test.false), r.invariant.2); fills = r.invariant.3 }
