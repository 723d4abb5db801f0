use Prim.Native.Nat.{◌-◌, ◌≤◌}
use mathlib.Core.Path.{refl, sym, ◌∙◌}
use native.Mathlib.Omega.{arith}
use lib.ListN.{length}
use Rattle.matched.specs.Laws.{bonded_hit, bonded_on, bonded_over}
use Rattle.matched.proofs.is_bonded.Goals as goal

pub loop-i-init : goal.loop-i-init
loop-i-init c = (omega arith, refl)

pub bounds-bonds-i : goal.bounds-bonds-i
bounds-bonds-i c = omega (arith, c.loop-i-test.true)

pub bounds-bonds-i-in-loop-i : goal.bounds-bonds-i-in-loop-i
bounds-bonds-i-in-loop-i c = omega (arith, c.loop-i-test.true)

pub returns-then-is_between : goal.returns-then-is_between
returns-then-is_between c =
    let a = c.args in
    let l = c.loop-i in
    bonded_hit a.bonds.now l.i c.wide_two.result c.wide_two-in-loop-i.result (omega (arith, c.loop-i-test.true)) c.wide_two.ensures.0 c.wide_two-in-loop-i.ensures.0
    a.x a.y (sym c.is_between.ensures ∙ c.if-is_between.true)
    ∙ l.invariant.1

pub loop-i-preserved : goal.loop-i-preserved
loop-i-preserved c =
    let a = c.args in
    let l = c.loop-i in
    let h : 2 ≤ length a.bonds.now - l.i = omega (arith, c.loop-i-test.true) in (
      omega arith,
      bonded_on a.bonds.now l.i c.wide_two.result c.wide_two-in-loop-i.result h c.wide_two.ensures.0 c.wide_two-in-loop-i.ensures.0
          a.x a.y (sym c.is_between.ensures ∙ c.if-is_between.false)
          ∙ l.invariant.1,
    )

pub returns : goal.returns
returns c =
    let a = c.args in
    let l = c.loop-i in
    bonded_over a.bonds.now l.i (omega (arith, c.loop-i-test.false)) a.x a.y ∙ l.invariant.1
