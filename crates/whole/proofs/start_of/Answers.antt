use Prim.Native.Nat.{◌+◌, ◌-◌}
use mathlib.Core.Path.{◌≡◌, sym, ◌∙◌, ap, ap₂}
use native.Mathlib.Omega.{arith}
use Rattle.graph.specs.Assembly.{start_at}
use Rattle.deck.specs.Molecule.{graph_at}
use Rattle.deck.specs.Placed.{deck_of}
use Rattle.deck.proofs.Reading.{block-atoms}
use Rattle.whole.specs.Laws.{start_none, start_more}
use Rattle.whole.proofs.start_of.Goals as goal

pub loop-i-init : goal.loop-i-init
loop-i-init c = let a = c.args in (omega arith, sym (start_none (graph_at a.d.now (deck_of a.deck))), omega arith)

pub overflow_add-start : goal.overflow_add-start
overflow_add-start c = omega (arith, c.struct_known-1.given, c.loop-i.invariant.2)

pub loop-i-preserved : goal.loop-i-preserved
loop-i-preserved c =
    let l = c.loop-i in
    let a = c.args in
    let b = c.block_at-b in
    let e = block-atoms a.d.now (deck_of a.deck) l.i b.result b.ensures in
    (omega arith, ap₂ ◌+◌ l.invariant.1 (sym e) ∙ sym (start_more (graph_at a.d.now (deck_of a.deck)) l.i), omega (arith, c.struct_known-1.given, l.invariant.2))

pub returns : goal.returns
returns c =
    let l = c.loop-i in
    let a = c.args in
    let e : l.i ≡ a.k = omega (arith, c.loop-i-test.false) in
    (l.invariant.1 ∙ ap (start_at (graph_at a.d.now (deck_of a.deck))) e, omega (arith, l.invariant.2))
