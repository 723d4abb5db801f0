use Prim.Native.Nat.{ℕ, ◌+◌, min, ◌≤◌}
use mathlib.Core.List.{List}
use mathlib.Core.Path.{◌≡◌, ◌∙◌}
use native.Mathlib.Omega.{arith}
use Rattle.graph.specs.Graph.{Within}
use Rattle.graph.specs.Paths.{path_count}
use Rattle.graph.specs.Notions.{weight, gathered, lcm_starts}
use Rattle.block.specs.Block.{graph_of}
use Rattle.shares.specs.Work.{cap, full, at, CappedRow, Tally, WholeBlock, StartRows}
use Rattle.shares.proofs.Tallying.{tally_of, start_next}
use Rattle.shares.proofs.Starting.{counts_pos, weighs, ready, whole_pos, whole_at, sofar_room, raise_fits, raised, added}
use borrow.Author.Rules.{rules}
use Rattle.shares.proofs.flows.add_start.Goals as goal
use Rattle.shares.proofs.flows.add_start.Goals.{After-common_start-d, After-counts-c, After-onward, Else-d-gt-MOST}

-- `add_start` meets its contract: D takes the counts in, the entries grow with it, and the rows of the start are ready.
pub counts-c-requires : goal.counts-c-requires
counts-c-requires c = (_, _, _, c.requires.0)

-- the counts of the start, and what was taken in before
tallied : (c : After-counts-c) → let a = c.args in
    Tally a.n (path_count (graph_of a.n a.bonds.now) (a.i + 1)) (lcm_starts a.n (path_count (graph_of a.n a.bonds.now)) a.i) c.counts-c.result a.before
tallied c =
    let p = c.requires in
    tally_of p.1.molecule c.args.i p.0 (c.counts-c.ensures _ _ _ p.0) p.1.is (omega (arith, p.1.low))

tallied-in-After-common_start-d : (c : After-common_start-d) → let a = c.args in
    Tally a.n (path_count (graph_of a.n a.bonds.now) (a.i + 1)) (lcm_starts a.n (path_count (graph_of a.n a.bonds.now)) a.i) c.counts-c.result a.before
tallied-in-After-common_start-d c =
    let p = c.requires in
    tally_of p.1.molecule c.args.i p.0 (c.counts-c.ensures _ _ _ p.0) p.1.is (omega (arith, p.1.low))

tallied-in-Else-d-gt-MOST : (c : Else-d-gt-MOST) → let a = c.args in
    Tally a.n (path_count (graph_of a.n a.bonds.now) (a.i + 1)) (lcm_starts a.n (path_count (graph_of a.n a.bonds.now)) a.i) c.counts-c.result a.before
tallied-in-Else-d-gt-MOST c =
    let p = c.requires in
    tally_of p.1.molecule c.args.i p.0 (c.counts-c.ensures _ _ _ p.0) p.1.is (omega (arith, p.1.low))

tallied-in-After-onward : (c : After-onward) → let a = c.args in
    Tally a.n (path_count (graph_of a.n a.bonds.now) (a.i + 1)) (lcm_starts a.n (path_count (graph_of a.n a.bonds.now)) a.i) c.counts-c.result a.before
tallied-in-After-onward c =
    let p = c.requires in
    tally_of p.1.molecule c.args.i p.0 (c.counts-c.ensures _ _ _ p.0) p.1.is (omega (arith, p.1.low))

pub common_start-d-requires : goal.common_start-d-requires
common_start-d-requires c = (c.requires.0.start.high, (_, _, tallied (goal.at.common_start-d-requires c).After-counts-c))

-- D of the starts up to this
found : (c : After-common_start-d) → let a = c.args in c.common_start-d.result ≡ min cap (lcm_starts a.n (path_count (graph_of a.n a.bonds.now)) (a.i + 1))
found c = start_next c.requires.1.molecule c.args.i c.common_start-d.result (c.common_start-d.ensures _ _ (tallied-in-After-common_start-d c))

found-in-Else-d-gt-MOST : (c : Else-d-gt-MOST) → let a = c.args in c.common_start-d.result ≡ min cap (lcm_starts a.n (path_count (graph_of a.n a.bonds.now)) (a.i + 1))
found-in-Else-d-gt-MOST c = start_next c.requires.1.molecule c.args.i c.common_start-d.result (c.common_start-d.ensures _ _ (tallied-in-Else-d-gt-MOST c))

found-in-After-onward : (c : After-onward) → let a = c.args in c.common_start-d.result ≡ min cap (lcm_starts a.n (path_count (graph_of a.n a.bonds.now)) (a.i + 1))
found-in-After-onward c = start_next c.requires.1.molecule c.args.i c.common_start-d.result (c.common_start-d.ensures _ _ (tallied-in-After-onward c))

pub returns-then-d-gt-MOST : goal.returns-then-d-gt-MOST
returns-then-d-gt-MOST c = (found (goal.at.returns-then-d-gt-MOST c).After-common_start-d, λ l. absurd (omega (arith, c.if-d-gt-MOST.true)))

next : (c : Else-d-gt-MOST) → let a = c.args in WholeBlock a.n a.bonds.now (a.i + 1) c.common_start-d.result
next c = whole_at c.requires.1 (c.args.i + 1) c.common_start-d.result (found-in-Else-d-gt-MOST c) (omega (arith, c.if-d-gt-MOST.false))

next-in-After-onward : (c : After-onward) → let a = c.args in WholeBlock a.n a.bonds.now (a.i + 1) c.common_start-d.result
next-in-After-onward c = whole_at c.requires.1 (c.args.i + 1) c.common_start-d.result (found-in-After-onward c) (omega (arith, c.if-d-gt-MOST.false))

few : (c : Else-d-gt-MOST) → c.args.i ≤ c.args.n
few c = omega (arith, c.requires.0.start.high)

pub nonzero_div-d : goal.nonzero_div-d
nonzero_div-d c = omega (arith, whole_pos c.requires.1)

pub raise-requires : goal.raise-requires
raise-requires c = let p = c.requires in (p.2.room, raise_fits p.1 (next (goal.at.raise-requires c).Else-d-gt-MOST) (few (goal.at.raise-requires c).Else-d-gt-MOST) p.2)

pub weights-t-requires : goal.weights-t-requires
weights-t-requires c =
    let p = c.requires in
    (p.0.small, p.0.start.high, counts_pos (next (goal.at.weights-t-requires c).Else-d-gt-MOST) p.0.start (c.counts-c.ensures _ _ _ p.0))

pub onward-requires : goal.onward-requires
onward-requires c = ((_, _, _, _, c.requires.0), search rules, λ w. omega (arith, c.weights-t.ensures.1 w, c.if-d-gt-MOST.false))

-- the weights of this start, and its rows
weighed : (c : After-onward) → let a = c.args in (v : ℕ) → Within a.n v
    → at c.weights-t.result v ≡ weight (graph_of a.n a.bonds.now) c.common_start-d.result (a.i + 1) v
weighed c =
    let p = c.requires in
    weighs (next-in-After-onward c) p.0.start (c.counts-c.ensures _ _ _ p.0) c.weights-t.ensures.0

rows : (c : After-onward) {t : List ℕ} → let a = c.args in
    CappedRow a.n full (gathered (graph_of a.n a.bonds.now) (a.i + 1) (weight (graph_of a.n a.bonds.now) c.common_start-d.result (a.i + 1))) t
    → StartRows a.n a.bonds.now a.row.now c.counts-c.result t (a.i + 1) c.common_start-d.result
rows c h =
    let p = c.requires in
    ready (next-in-After-onward c) p.0.start (c.counts-c.ensures _ _ _ p.0) p.0 h

pub add_flows-requires : goal.add_flows-requires
add_flows-requires c =
    let p = c.requires in (
      (_, _, _, rows (goal.at.add_flows-requires c).After-onward (c.onward.ensures _ _ _ _ _ p.0 (weighed (goal.at.add_flows-requires c).After-onward))),
      sofar_room (next (goal.at.add_flows-requires c).Else-d-gt-MOST) c.args.i (few (goal.at.add_flows-requires c).Else-d-gt-MOST) (raised p.1 (next (goal.at.add_flows-requires c).Else-d-gt-MOST) (few (goal.at.add_flows-requires c).Else-d-gt-MOST) p.2 c.raise.ensures),
    )

pub shape_of-out : goal.shape_of-out
shape_of-out c =
    let p = c.requires in
    (c.add_flows.ensures _ _ _ (rows (goal.at.shape_of-out c).After-onward (c.onward.ensures _ _ _ _ _ p.0 (weighed (goal.at.shape_of-out c).After-onward)))).same ∙ c.raise.ensures.same

pub returns : goal.returns
returns c =
    let p = c.requires in (
      found (goal.at.returns c).After-common_start-d,
      λ l. added (raised p.1 (next (goal.at.returns c).Else-d-gt-MOST) (few (goal.at.returns c).Else-d-gt-MOST) p.2 c.raise.ensures) (c.add_flows.ensures _ _ _ (rows (goal.at.returns c).After-onward (c.onward.ensures _ _ _ _ _ p.0 (weighed (goal.at.returns c).After-onward)))),
    )
