use Prim.Native.Nat.{◌*◌}
use mathlib.Core.Path.{◌≡◌, refl, ◌∙◌, subst}
use native.Mathlib.Omega.{arith}
use Rattle.summaries.specs.Ends.{Known}
use Rattle.summaries.proofs.Storing.{known_none, steps_known, counts_known}
use Rattle.summaries.proofs.ends.see_ends.Goals as goal

pub loop-e-init : goal.loop-e-init
loop-e-init c = (refl, refl, known_none c.requires.3)

pub see_end-requires : goal.see_end-requires
see_end-requires c =
    let p = c.requires in
    let i = c.loop-e.invariant in
    (p.0, record { low = omega arith; high = omega (arith, c.loop-e-test.true) }, omega (arith, p.1, i.0), omega (arith, p.2, i.1), i.2)

pub loop-e-preserved : goal.loop-e-preserved
loop-e-preserved c =
    let i = c.loop-e.invariant in
    (c.rows-1.given ∙ i.0, c.counts-1.given ∙ i.1, c.see_end.ensures)

pub shape_of-rows : goal.shape_of-rows
shape_of-rows c = c.loop-e.invariant.0

pub shape_of-counts : goal.shape_of-counts
shape_of-counts c = c.loop-e.invariant.1

pub returns : goal.returns
returns c =
    let a = c.args in
    let p = c.requires in
    let i = c.loop-e.invariant in
    let e : c.loop-e.e ≡ 2 * a.count = omega (arith, p.0.few, c.loop-e-test.false) in
    let k = subst (Known a.book.now a.links.now a.count c.loop-e.rows c.loop-e.counts) e i.2 in
    record { rows = steps_known p.0 (omega (arith, p.1, i.0)) k; counts = counts_known p.0 (omega (arith, p.2, i.1)) k }
