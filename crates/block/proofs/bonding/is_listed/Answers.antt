use Prim.Native.Nat.{◌+◌, ◌-◌}
use mathlib.Core.Bool.{◌||◌, not}
use mathlib.Core.Path.{◌≡◌, refl, sym, ◌∙◌}
use native.Mathlib.Omega.{arith}
use lib.Dec.{eqb}
use lib.ListN.{drop}
use borrow.Author.Tests.{eq-eqb, ne_eqb}
use Rattle.graph.specs.Graph.{any_joins}
use Rattle.block.specs.Block.{bonds_of}
use Rattle.block.proofs.Reading.{listed_next, listed_over}
use Rattle.block.proofs.bonding.is_listed.Goals as goal
use Rattle.block.proofs.bonding.is_listed.Goals.{After-one_if-in-loop-i}

pub loop-i-init : goal.loop-i-init
loop-i-init c = (omega arith, refl)

pub overflow_add-one_if : goal.overflow_add-one_if
overflow_add-one_if c = omega (arith, c.one_if.ensures.1, c.one_if-in-loop-i.ensures.1)

-- what the bond at byte i says, and the others
more : (c : After-one_if-in-loop-i) → let s = c.args in
    any_joins (bonds_of s.bonds.now) s.a s.b ≡ (not (eqb (c.one_if.result + c.one_if-in-loop-i.result) 0) || any_joins (bonds_of (drop (c.loop-i.i + 2) s.bonds.now)) s.a s.b)
more c =
    let s = c.args in
    sym c.loop-i.invariant.1 ∙ listed_next s.bonds.now c.loop-i.i s.a s.b (omega arith) c.one_if.ensures.0 c.one_if-in-loop-i.ensures.0

pub returns-then-one_if-ne0 : goal.returns-then-one_if-ne0
returns-then-one_if-ne0 c = sym (rw (ne_eqb _ _ c.if-one_if-ne0.true) at (more (goal.at.returns-then-one_if-ne0 c).After-one_if-in-loop-i))

pub loop-i-preserved : goal.loop-i-preserved
loop-i-preserved c = (omega arith, sym (rw (eq-eqb _ _ c.if-one_if-ne0.false) at (more (goal.at.loop-i-preserved c).After-one_if-in-loop-i)))

pub returns : goal.returns
returns c =
    let s = c.args in
    sym (listed_over s.bonds.now c.loop-i.i s.a s.b (omega arith)) ∙ c.loop-i.invariant.1
