use Prim.Native.Nat.{ℕ, ◌+◌, ◌*◌, ◌-◌, ◌/◌, ◌<◌}
use mathlib.Core.List.{List}
use mathlib.Core.Path.{◌≡◌, refl, ◌∙◌, ap, subst⁻¹}
use native.Mathlib.Omega.{arith}
use lib.Dec.{lit<}
use lib.ListN.{length, length-set}
use Rattle.graph.specs.Graph.{Within}
use Rattle.assembly.specs.Placements.{most_placements}
use Rattle.block.specs.declared.Indices.{Indices}
use Rattle.joining.specs.Parts.{six_in}
use Rattle.joining.specs.Small.{SmallCounts, joined_small}
use Rattle.summary.specs.Layout.{stored_fields}
use Rattle.shelf.specs.Shelf.{summary_at, place_of}
use Rattle.summaries.specs.Ready.{place_in, kept_in, joins_in, sight_of_row}
use Rattle.summaries.proofs.Ports.{small, own_small, block_room, six_room, from_small, six_next}
use Rattle.summaries.proofs.Storing.{made_more}
use Rattle.summaries.proofs.joins.composed.Goals as goal
use Rattle.summaries.proofs.joins.composed.Goals.{In-loop-k}

-- `summaries::joins::composed` meets its contract. The loop's invariant: s has the fields of the first k placements, and their joins are made.
-- Assumes nothing.
-- the fields of the block that an end is in
abbrev fields_of : List ℕ → ℕ → Indices
fields_of b x = stored_fields (summary_at b (place_of b (x / 256)))

pub end_at-requires : goal.end_at-requires
end_at-requires c = lit< tt

pub loop-k-init : goal.loop-k-init
unfolding six_in
loop-k-init c =
    (refl, c.fields_at.ensures ∙ ap (fields_of c.args.book.now) c.end_at.ensures.0, c.requires.2, refl)

index : (c : In-loop-k) → Within (c.args.count - 1) c.loop-k.k
index c = omega (arith, c.loop-k-test.true)

-- the placement at index k has a row
row : (c : In-loop-k) → c.loop-k.k < most_placements
row c = small c.requires.0 (index c)

-- and its ends have theirs
long : (c : In-loop-k) → 2 * c.loop-k.k + 1 < length c.loop-k.counts
long c = omega (arith, index c, c.loop-k.invariant.2.long)

pub core_of-core-requires : goal.core_of-core-requires
core_of-core-requires c =
    let p = c.requires in
    (p.0, index (goal.at.core_of-core-requires c).In-loop-k, p.1, c.loop-k.invariant.2, omega (arith, p.3, c.loop-k.invariant.3))

pub row_of-requires : goal.row_of-requires
row_of-requires c =
    subst⁻¹ SmallCounts c.core_of-core.ensures (from_small c.requires.0 c.loop-k.k c.loop-k.k (omega (arith, row (goal.at.row_of-requires c).In-loop-k)))

pub bounds-counts-k : goal.bounds-counts-k
bounds-counts-k c = long (goal.at.bounds-counts-k c).In-loop-k

pub loop-k-preserved : goal.loop-k-preserved
loop-k-preserved c =
    let r = c.requires.0 in
    let w = index (goal.at.loop-k-preserved c).In-loop-k in
    let i = c.loop-k.invariant in
    let k = c.loop-k.k in
    let l = c.args.links.now in
    let core = c.core_of-core.ensures in
    let own = c.core_at-own.ensures ∙ i.2.own k w.low (omega (arith, w)) in
    let e : k + 1 - 1 ≡ k = omega arith in (
      length-set c.loop-k.counts (2 * k + 1) c.row_of.result ∙ i.0,
      rw e
          (c.joined-s.ensures
          ∙ rw (i.1, c.fields_at-in-loop-k.ensures ∙ ap (fields_of c.args.book.now) c.end_at-in-loop-k.ensures.0, core, own)
          (joined_small (six_room r (k - 1) (omega (arith, row (goal.at.loop-k-preserved c).In-loop-k))) (block_room r (place_in c.args.book.now l k)) (from_small r k k (omega (arith, row (goal.at.loop-k-preserved c).In-loop-k))) (own_small r (place_in c.args.book.now l k) (joins_in l k).own) ∙ six_next r w)),
      made_more _ _ c.args.count k _ (omega (arith, w)) (ap sight_of_row c.row_of.ensures ∙ core) i.2,
      c.far-1.given ∙ i.3,
    )

pub shape_of-counts : goal.shape_of-counts
shape_of-counts c = c.loop-k.invariant.0

pub shape_of-far : goal.shape_of-far
shape_of-far c = c.loop-k.invariant.3

pub returns : goal.returns
returns c =
    let a = c.args in
    let i = c.loop-k.invariant in
    let e : c.loop-k.k - 1 ≡ a.count - 1 = omega (arith, c.loop-k-test.false) in
    i.1 ∙ ap (six_in (kept_in a.book.now a.links.now) (joins_in a.links.now)) e
