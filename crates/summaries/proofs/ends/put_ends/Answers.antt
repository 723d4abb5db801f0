use Prim.Native.Nat.{ℕ}
use mathlib.Core.Path.{◌≡◌, refl, ◌∙◌, subst}
use native.Mathlib.Omega.{arith}
use Rattle.summaries.specs.Ends.{Put}
use Rattle.summaries.proofs.Storing.{put_none, put_more}
use Rattle.summaries.proofs.ends.put_ends.Goals as goal

pub loop-f-init : goal.loop-f-init
loop-f-init c = (refl, refl, put_none)

pub put_end-requires : goal.put_end-requires
put_end-requires c =
    let p = c.requires in
    let i = c.loop-f.invariant in
    (p.0, record { low = omega (arith, p.1); high = omega (arith, p.3, c.loop-f-test.true) }, omega (arith, p.4, i.0), omega (arith, p.5, i.1), p.6, p.7)

pub loop-f-preserved : goal.loop-f-preserved
loop-f-preserved c =
    let i = c.loop-f.invariant in
    (c.rows-1.given ∙ i.0, c.counts-1.given ∙ i.1, put_more c.loop-f.f i.2 c.put_end.ensures)

pub shape_of-rows : goal.shape_of-rows
shape_of-rows c = c.loop-f.invariant.0

pub shape_of-counts : goal.shape_of-counts
shape_of-counts c = c.loop-f.invariant.1

pub returns : goal.returns
returns c =
    let a = c.args in
    let i = c.loop-f.invariant in
    let e : c.loop-f.f ≡ a.to = omega (arith, c.requires.2, c.loop-f-test.false) in
    subst (λ (f : ℕ). Put a.book.now a.links.now a.count a.x a.e f a.rows.now a.counts.now c.loop-f.rows c.loop-f.counts) e i.2
