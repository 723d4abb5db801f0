use Prim.Native.Nat.{ℕ, ◌-◌, ◌≤◌}
use mathlib.Core.Path.{◌≡◌, refl, sym, ◌∙◌, ap₂}
use native.Mathlib.Omega.{arith}
use lib.ListN.{length}
use Rattle.graph.specs.Graph.{bond, joins}
use Rattle.matched.specs.Matched.{partner}
use Rattle.matched.specs.Laws.{carried_hit, carried_on, carried_over}
use Rattle.matched.proofs.is_carried.Goals as goal
use Rattle.matched.proofs.is_carried.Goals.{After-is_between}

pub loop-i-init : goal.loop-i-init
loop-i-init c = (omega arith, refl)

pub bounds-bonds-i : goal.bounds-bonds-i
bounds-bonds-i c = omega (arith, c.loop-i-test.true)

pub bounds-bonds-i-in-loop-i : goal.bounds-bonds-i-in-loop-i
bounds-bonds-i-in-loop-i c = omega (arith, c.loop-i-test.true)

-- whether the bond at hand joins the two by its partners
joined : (c : After-is_between) → let a = c.args in
    joins (bond (partner a.to.now c.wide_two.result) (partner a.to.now c.wide_two-in-loop-i.result)) a.x a.y ≡ c.is_between.result
joined c = let a = c.args in ap₂ (λ (one two : ℕ). joins (bond one two) a.x a.y) (sym c.partner-one.ensures) (sym c.partner-two.ensures) ∙ sym c.is_between.ensures

pub returns-then-is_between : goal.returns-then-is_between
returns-then-is_between c =
    let a = c.args in
    let l = c.loop-i in
    carried_hit a.bonds.now l.i c.wide_two.result c.wide_two-in-loop-i.result (omega (arith, c.loop-i-test.true)) c.wide_two.ensures.0 c.wide_two-in-loop-i.ensures.0
    a.x a.y a.to.now (joined (goal.at.returns-then-is_between c).After-is_between ∙ c.if-is_between.true)
    ∙ l.invariant.1

pub loop-i-preserved : goal.loop-i-preserved
loop-i-preserved c =
    let a = c.args in
    let l = c.loop-i in
    let h : 2 ≤ length a.bonds.now - l.i = omega (arith, c.loop-i-test.true) in (
      omega arith,
      carried_on a.bonds.now l.i c.wide_two.result c.wide_two-in-loop-i.result h c.wide_two.ensures.0 c.wide_two-in-loop-i.ensures.0
          a.x a.y a.to.now (joined (goal.at.loop-i-preserved c).After-is_between ∙ c.if-is_between.false)
          ∙ l.invariant.1,
    )

pub returns : goal.returns
returns c =
    let a = c.args in
    let l = c.loop-i in
    carried_over a.bonds.now l.i (omega (arith, c.loop-i-test.false)) a.to.now a.x a.y ∙ l.invariant.1
