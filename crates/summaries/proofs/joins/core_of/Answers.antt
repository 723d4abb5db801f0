use Prim.Native.Nat.{ℕ, ◌-◌, ◌<◌}
use mathlib.Core.Path.{◌≡◌, refl, sym, ◌∙◌, ap}
use native.Mathlib.Omega.{arith}
use lib.ListN.{length, length-set}
use Rattle.joining.specs.Small.{grown_small}
use Rattle.graph.specs.Graph.{Within}
use Rattle.summaries.specs.Ready.{place_in, joins_in, sight_from}
use Rattle.summaries.proofs.Ports.{small, earlier, own_small, from_small, between_small, from_next}
use Rattle.summaries.proofs.Storing.{kept_more}
use Rattle.summaries.proofs.joins.core_of.Goals as goal
use Rattle.summaries.proofs.joins.core_of.Goals.{In-loop-m}

pub begun-v-requires : goal.begun-v-requires
begun-v-requires c = let p = c.requires in (p.0, p.1, p.2, p.3)

pub parent_of-p-requires : goal.parent_of-p-requires
parent_of-p-requires c = let p = c.requires in small p.0 p.1

pub loop-m-init : goal.loop-m-init
loop-m-init c =
    let e = c.parent_of-p.ensures.0 in (
      omega (arith, e),
      omega (arith, e, earlier c.requires.0 c.requires.1),
      c.begun-v.ensures ∙ ap (λ (m : ℕ). sight_from c.args.book.now c.args.links.now m c.args.k) (sym e),
      e,
      refl,
      record { known = λ j l h. absurd (omega (arith, e)) },
    )

-- the placement at index m has joined before
joined : (c : In-loop-m) → Within (c.args.count - 1) c.loop-m.m
joined c = let p = c.requires in omega (arith, earlier p.0 p.1, p.1, c.loop-m.invariant.0, c.loop-m-test.true)

-- and has a place in the row
place : (c : In-loop-m) → c.loop-m.m < length c.loop-m.far
place c = let p = c.requires in omega (arith, joined c, p.4, c.loop-m.invariant.4)

pub apart_kept-d-requires : goal.apart_kept-d-requires
apart_kept-d-requires c =
    let p = c.requires in
    let i = c.loop-m.invariant in
    (p.0, joined (goal.at.apart_kept-d-requires c).In-loop-m, p.1, p.2, i.3, omega (arith, place (goal.at.apart_kept-d-requires c).In-loop-m), i.5)

pub bounds-far-m : goal.bounds-far-m
bounds-far-m c = place (goal.at.bounds-far-m c).In-loop-m

pub loop-m-preserved : goal.loop-m-preserved
loop-m-preserved c =
    let p = c.requires in
    let l = c.args.links.now in
    let i = c.loop-m.invariant in
    let m = c.loop-m.m in
    let k = c.args.k in
    let d = c.apart_kept-d.ensures in
    let o = c.core_at.ensures ∙ p.3.own m (joined (goal.at.loop-m-preserved c).In-loop-m).low (omega (arith, joined (goal.at.loop-m-preserved c).In-loop-m)) in (
      omega (arith, i.0),
      omega (arith, c.loop-m-test.true),
      c.grown-v.ensures
          ∙ rw (i.2, d, o)
          (grown_small (from_small p.0 m k (omega (arith, i.1, small p.0 p.1))) (omega (arith, between_small p.0 m k)) (own_small p.0 (place_in c.args.book.now l m) (joins_in l m).own)
          ∙ from_next p.0 p.1 m i.0 c.loop-m-test.true),
      i.3,
      length-set c.loop-m.far m c.apart_kept-d.result ∙ i.4,
      kept_more c.args.book.now l k m c.apart_kept-d.result (place (goal.at.loop-m-preserved c).In-loop-m) d i.5,
    )

pub shape_of-far : goal.shape_of-far
shape_of-far c = c.loop-m.invariant.4

pub returns : goal.returns
returns c =
    let a = c.args in
    let i = c.loop-m.invariant in
    let e : c.loop-m.m ≡ a.k = omega (arith, i.1, c.loop-m-test.false) in
    i.2 ∙ ap (λ (m : ℕ). sight_from a.book.now a.links.now m a.k) e
