use Prim.Native.Nat.{ℕ, ◌-◌}
use mathlib.Core.Path.{◌≡◌, refl, ◌∙◌, ap}
use native.Mathlib.Omega.{arith}
use lib.ListN.{length}
use lib.Seq.{sets, length-sets}
use Rattle.deck.specs.Molecule.{graph_at, join_at}
use Rattle.deck.specs.Placed.{deck_of}
use Rattle.whole.specs.Whole.{pair_numbers}
use Rattle.whole.specs.Work.{brought, bonds_before}
use Rattle.whole.specs.Joins.{before_none, before_length, before_numbers}
use Rattle.whole.proofs.put_all.Goals as goal

pub loop-k-init : goal.loop-k-init
unfolding pair_numbers
loop-k-init c =
    let a = c.args in
    let e = before_none (graph_at a.d.now (deck_of a.deck)) (join_at a.d.now (deck_of a.deck)) in
    (omega arith, rw e, omega arith, refl, rw e)

pub put_placed-next-requires : goal.put_placed-next-requires
put_placed-next-requires c =
    let l = c.loop-k in
    (c.requires, omega (arith, c.loop-k-test.true), omega (arith, l.invariant.2, l.invariant.0, c.requires.count.high))

pub loop-k-preserved : goal.loop-k-preserved
loop-k-preserved c =
    let l = c.loop-k in
    let a = c.args in
    let p = c.put_placed-next in
    let blocks = graph_at a.d.now (deck_of a.deck) in
    let joins = join_at a.d.now (deck_of a.deck) in (
      omega (arith, c.loop-k-test.true),
      omega (arith, p.ensures.end.0, before_length blocks joins l.k, l.invariant.1),
      omega (arith, p.ensures.end.1, l.invariant.2),
      ap length p.ensures.numbers ∙ length-sets l.out l.at (pair_numbers (brought blocks joins l.k)) ∙ l.invariant.3,
      before_numbers blocks joins l.k a.out.now l.out p.new.out l.at l.invariant.1 l.invariant.4 p.ensures.numbers,
    )

pub shape_of-out : goal.shape_of-out
shape_of-out c = c.loop-k.invariant.3

pub returns : goal.returns
returns c =
    let l = c.loop-k in
    let a = c.args in
    let e : l.k ≡ a.deck.placements = omega (arith, c.loop-k-test.false, l.invariant.0) in
    l.invariant.4 ∙ ap (λ (k : ℕ). sets a.out.now 0 (pair_numbers (bonds_before (graph_at a.d.now (deck_of a.deck)) (join_at a.d.now (deck_of a.deck)) k))) e
