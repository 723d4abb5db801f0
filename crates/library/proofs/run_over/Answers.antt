use Prim.Native.Nat.{◌-◌, ◌≤◌, ◌<◌}
use mathlib.Core.Path.{refl, sym, ap}
use native.Mathlib.Omega.{arith}
use lib.ListN.{length}
use borrow.Author.Rules.{rules}
use Rattle.sheets.specs.Sheets.{sheet_bytes}
use Rattle.catalogue.specs.Products.{products}
use Rattle.library.specs.Steps.{Ran, steps_from}
use Rattle.library.proofs.Spreading.{going_start, going_full, going_done}
use Rattle.library.proofs.run_over.Goals as goal

pub loop-p-init : goal.loop-p-init
loop-p-init c = let a = c.args in (refl, omega arith, λ d l bs xs t m. going_start a.sheet d a.position a.out.now)

pub overflow_sub-out : goal.overflow_sub-out
overflow_sub-out c = c.loop-p.invariant.1

pub shape_of-out-then-out-at : goal.shape_of-out-then-out-at
shape_of-out-then-out-at c = c.loop-p.invariant.0

pub returns-then-out-at : goal.returns-then-out-at
returns-then-out-at c d l bs xs t m = let a = c.args in let r = c.loop-p in
    let e = going_full a.sheet d l t.held.reads (r.invariant.2 d l bs xs t m) (omega (arith, c.if-out-at.true, c.bytes_of-bytes.ensures)) in
    (sym (ap (λ (x : Ran). x.next) e), sym (ap (λ (x : Ran). x.out) e))

pub staying_at-stay-requires : goal.staying_at-stay-requires
staying_at-stay-requires c = let p = c.requires in (p.0, p.1, p.2, p.3, p.4, omega (arith, p.5))

pub turn-reached-requires : goal.turn-reached-requires
turn-reached-requires c = let p = c.requires in
    record { by_index = (p.0, p.1, c.staying_at-stay.ensures p.0 p.1 p.2 p.3 p.4 (omega (arith, p.5, c.loop-p-test.true))); start_in_bounds = c.loop-p.invariant.1 }

pub loop-p-smaller : goal.loop-p-smaller
loop-p-smaller c = let r = c.loop-p in
    let a = c.args in
    let room : sheet_bytes a.sheet ≤ length r.out - r.at = omega (arith, c.bytes_of-bytes.ensures, c.if-out-at.false) in
    omega (arith, c.turn-reached.ensures.on room, c.loop-p-test.true)

pub loop-p-preserved : goal.loop-p-preserved
loop-p-preserved c = let a = c.args in let r = c.loop-p in
    let test = c.loop-p-test.true in
    let reached = c.turn-reached in (
      search rules,
      reached.ensures.within,
      λ d l bs xs t m.
          let low : r.p < products l.sites = omega (arith, m, test) in
          reached.ensures.goes d l (steps_from (length a.out.now) a.sheet d a.position a.out.now) (c.staying_at-stay.ensures d l bs xs t low) (r.invariant.2 d l bs xs t m),
    )

pub shape_of-out : goal.shape_of-out
shape_of-out c = c.loop-p.invariant.0

pub returns : goal.returns
returns c d l bs xs t m = let a = c.args in let r = c.loop-p in
    let e = going_done a.sheet d l t.held.reads (r.invariant.2 d l bs xs t m) (omega (arith, m, c.loop-p-test.false)) in
    (sym (ap (λ (x : Ran). x.next) e), sym (ap (λ (x : Ran). x.out) e))
