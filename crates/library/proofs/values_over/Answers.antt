use Prim.Native.Nat.{ℕ, ◌+◌, ◌-◌, ◌<◌}
use mathlib.Core.Path.{◌≡◌, refl, subst}
use native.Mathlib.Omega.{arith}
use borrow.Author.Rules.{rules}
use Rattle.catalogue.specs.Products.{products}
use Rattle.catalogue.proofs.Fine.{few_products}
use Rattle.library.specs.Values.{values_of}
use Rattle.library.specs.Filled.{Filled, filled_start}
use Rattle.library.proofs.values_over.Goals as goal

pub loop-at-init : goal.loop-at-init
loop-at-init c = let a = c.args in (refl, omega arith, λ d l bs xs t m. filled_start (values_of d l a.field a.position) a.row.now)

pub overflow_add-position : goal.overflow_add-position
overflow_add-position c = let p = c.requires.by_index in omega (arith, (few_products p.0 p.1 p.4.held.reads).1, p.5, c.loop-at-test.true)

pub staying_at-stay-requires : goal.staying_at-stay-requires
staying_at-stay-requires c = let p = c.requires.by_index in (p.0, p.1, p.2, p.3, p.4, omega (arith, p.5, c.loop-at-test.true))

pub turn_values-next-requires : goal.turn_values-next-requires
turn_values-next-requires c = let p = c.requires in let q = p.by_index in
    let test = c.loop-at-test.true in
    record { by_index = (q.0, q.1, _, c.staying_at-stay.ensures q.0 q.1 q.2 q.3 q.4 (omega (arith, q.5, test))); start_lt_end = (test, omega (arith, p.count_in_bounds.0, c.loop-at.invariant.0), p.count_in_bounds.1, p.count_in_bounds.2) }

pub loop-at-smaller : goal.loop-at-smaller
loop-at-smaller c = omega (arith, c.turn_values-next.ensures.on, c.loop-at-test.true)

pub loop-at-preserved : goal.loop-at-preserved
loop-at-preserved c = let a = c.args in let r = c.loop-at in
    let test = c.loop-at-test.true in
    let next = c.turn_values-next in (
      search rules,
      next.ensures.on.1,
      λ d l bs xs t m.
          let low : a.position + r.at < products l.sites = omega (arith, m, test) in
          next.ensures.fills d l a.position a.row.now (c.staying_at-stay.ensures d l bs xs t low) (r.invariant.2 d l bs xs t m),
    )

pub shape_of-row : goal.shape_of-row
shape_of-row c = c.loop-at.invariant.0

pub returns : goal.returns
returns c d l bs xs t m = let a = c.args in let r = c.loop-at in
    let e : r.at ≡ a.count = omega (arith, r.invariant.1, c.loop-at-test.false) in
    subst (λ (k : ℕ). Filled (values_of d l a.field a.position) a.row.now r.row k) e (r.invariant.2 d l bs xs t m)
