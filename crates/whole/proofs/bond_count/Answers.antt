use Prim.Native.Nat.{ℕ, ◌-◌, ◌≤◌, ◌<◌}
use mathlib.Core.Path.{◌≡◌, sym, ◌∙◌, ap}
use native.Mathlib.Omega.{arith}
use lib.ListN.{length}
use Rattle.block.specs.Block.{most_bytes, bonds_of}
use Rattle.deck.specs.Molecule.{graph_at, join_at}
use Rattle.deck.specs.Placed.{deck_of}
use Rattle.whole.specs.Work.{bonds_before}
use Rattle.whole.specs.Joins.{bonds_few, bonds_are, brought-length, joining-length, before_none, before_length}
use Rattle.whole.proofs.bond_count.Goals as goal
use Rattle.whole.proofs.bond_count.Goals.{After-bonds_part-bonds}

pub loop-k-init : goal.loop-k-init
loop-k-init c = let a = c.args in (omega arith, ap length (sym (before_none (graph_at a.d.now (deck_of a.deck)) (join_at a.d.now (deck_of a.deck)))), omega arith)

-- a block has few bonds
few : (c : After-bonds_part-bonds) → length c.bonds_part-bonds.result.now ≤ most_bytes
few c =
    let l = c.loop-k in
    let b = c.block_at-b in
    omega (arith, ap length c.bonds_part-bonds.ensures.bytes, bonds_few c.requires l.k (omega (arith, c.loop-k-test.true)) b.result b.ensures)

pub overflow_add-m : goal.overflow_add-m
overflow_add-m c = omega (arith, few (goal.at.overflow_add-m c).After-bonds_part-bonds, c.joins_of.ensures.1)

pub overflow_add-m-in-loop-k : goal.overflow_add-m-in-loop-k
overflow_add-m-in-loop-k c =
    let l = c.loop-k in
    omega (arith, few (goal.at.overflow_add-m-in-loop-k c).After-bonds_part-bonds, c.joins_of.ensures.1, l.invariant.2, l.invariant.0, c.requires.count.high)

pub loop-k-preserved : goal.loop-k-preserved
loop-k-preserved c =
    let l = c.loop-k in
    let a = c.args in
    let b = c.block_at-b in
    let h : l.k < a.deck.placements = omega (arith, c.loop-k-test.true) in
    let blocks = graph_at a.d.now (deck_of a.deck) in
    let joins = join_at a.d.now (deck_of a.deck) in
    let e = bonds_are c.requires l.k h b.result b.ensures ∙ ap bonds_of (sym c.bonds_part-bonds.ensures.bytes) in
    let n = brought-length blocks joins l.k c.bonds_part-bonds.result.now e in (
      omega arith,
      omega (arith, before_length blocks joins l.k, n, joining-length blocks joins l.k, c.joins_of.ensures.0, l.invariant.1),
      omega (arith, few (goal.at.loop-k-preserved c).After-bonds_part-bonds, c.joins_of.ensures.1, l.invariant.2),
    )

pub returns : goal.returns
returns c =
    let l = c.loop-k in
    let a = c.args in
    let e : l.k ≡ a.deck.placements = omega (arith, c.loop-k-test.false, l.invariant.0) in
    (l.invariant.1 ∙ ap (λ (k : ℕ). length (bonds_before (graph_at a.d.now (deck_of a.deck)) (join_at a.d.now (deck_of a.deck)) k)) e, omega (arith, l.invariant.2, l.invariant.0, c.requires.count.high))
