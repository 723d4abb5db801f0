use Prim.Native.Nat.{◌-◌, ◌≤◌}
use mathlib.Core.Path.{◌≡◌, refl, sym, ◌∙◌}
use native.Mathlib.Omega.{arith}
use lib.ListN.{length}
use Rattle.graph.specs.Graph.{bond}
use Rattle.block.specs.Block.{graph_of}
use Rattle.matched.specs.Work.{is_amiss}
use Rattle.matched.specs.Laws.{first_hit, first_on, first_over}
use Rattle.matched.proofs.first_amiss.Goals as goal
use Rattle.matched.proofs.first_amiss.Goals.{After-is_amiss}

pub loop-i-init : goal.loop-i-init
loop-i-init c = (omega arith, omega arith, refl)

pub bounds-list-i : goal.bounds-list-i
bounds-list-i c = omega (arith, c.loop-i-test.true)

pub bounds-list-i-in-loop-i : goal.bounds-list-i-in-loop-i
bounds-list-i-in-loop-i c = omega (arith, c.loop-i-test.true)

-- the bond at hand
tested : (c : After-is_amiss) → let a = c.args in is_amiss a.listed (graph_of a.n a.bonds.now) (graph_of a.n a.whole.now) a.to.now (bond c.wide_two-one.result c.wide_two-two.result) ≡ c.is_amiss.result
tested c = sym c.is_amiss.ensures

pub returns-then-is_amiss : goal.returns-then-is_amiss
returns-then-is_amiss c =
    let a = c.args in
    let l = c.loop-i in
    first_hit a.list.now l.i c.wide_two-one.result c.wide_two-two.result (omega (arith, c.loop-i-test.true)) c.wide_two-one.ensures.0 c.wide_two-two.ensures.0
    l.at (is_amiss a.listed (graph_of a.n a.bonds.now) (graph_of a.n a.whole.now) a.to.now) (tested (goal.at.returns-then-is_amiss c).After-is_amiss ∙ c.if-is_amiss.true)
    ∙ l.invariant.2

pub overflow_add-at : goal.overflow_add-at
overflow_add-at c = omega (arith, c.loop-i.invariant.1, c.loop-i.invariant.0)

pub loop-i-preserved : goal.loop-i-preserved
loop-i-preserved c =
    let a = c.args in
    let l = c.loop-i in
    let h : 2 ≤ length a.list.now - l.i = omega (arith, c.loop-i-test.true) in (
      omega arith,
      omega (arith, l.invariant.1),
      first_on a.list.now l.i c.wide_two-one.result c.wide_two-two.result h c.wide_two-one.ensures.0 c.wide_two-two.ensures.0
          l.at (is_amiss a.listed (graph_of a.n a.bonds.now) (graph_of a.n a.whole.now) a.to.now) (tested (goal.at.loop-i-preserved c).After-is_amiss ∙ c.if-is_amiss.false)
          ∙ l.invariant.2,
    )

pub returns : goal.returns
returns c =
    let a = c.args in
    let l = c.loop-i in
    first_over a.list.now l.i (omega (arith, c.loop-i-test.false)) l.at (is_amiss a.listed (graph_of a.n a.bonds.now) (graph_of a.n a.whole.now) a.to.now) ∙ l.invariant.2
