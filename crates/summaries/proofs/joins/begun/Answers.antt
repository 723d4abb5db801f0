use Prim.Native.Nat.{ℕ, ◌+◌, ◌*◌, ◌-◌}
use mathlib.Core.List.{[]}
use mathlib.Core.Path.{◌≡◌, ◌∙◌, ap}
use native.Mathlib.Nat.{le_refl}
use native.Mathlib.Omega.{arith}
use Rattle.graph.specs.Graph.{Within}
use Rattle.joining.specs.Small.{grown_small}
use lib.ListN.{get_or}
use Rattle.summaries.specs.Ready.{place_in, joins_in, core_at, site_seen}
use Rattle.summaries.proofs.Ports.{small, earlier, above, own_small, from_small, far_small, step_own, begun_first, begun_later}
use Rattle.summaries.proofs.joins.begun.Goals as goal
use Rattle.summaries.proofs.joins.begun.Goals.{After-core_at-v, Else-above-eq0}

-- `summaries::joins::begun` meets its contract. Assumes nothing.
pub parent_of-above-requires : goal.parent_of-above-requires
parent_of-above-requires c = small c.requires.0 c.requires.1

pub overflow_sub-above : goal.overflow_sub-above
overflow_sub-above c = omega (arith, c.parent_of-above.ensures.0, earlier c.requires.0 c.requires.1)

pub overflow_mul-k : goal.overflow_mul-k
overflow_mul-k c = omega (arith, small c.requires.0 c.requires.1)

pub overflow_add-k : goal.overflow_add-k
overflow_add-k c = omega (arith, small c.requires.0 c.requires.1)

pub core_at-v-requires : goal.core_at-v-requires
core_at-v-requires c = let p = c.requires in omega (arith, p.1, p.3.long)

-- the parent's atom, in the parent's block
waits : (c : After-core_at-v) → let l = c.args.links.now in
    c.core_at-v.result ≡ (site_seen c.args.book.now l c.args.k).counts
waits c = c.core_at-v.ensures ∙ c.requires.3.waits c.args.k c.requires.1.low (omega (arith, c.requires.1)) (le_refl c.args.k)

pub returns-then-above-eq0 : goal.returns-then-above-eq0
returns-then-above-eq0 c = let p = c.requires in waits (goal.at.returns-then-above-eq0 c).After-core_at-v ∙ begun_first p.0 p.1 (omega (arith, c.if-above-eq0.true, c.parent_of-above.ensures.0))

up : (c : Else-above-eq0) → let a = c.args in Within (a.count - 1) ((joins_in a.links.now a.k).parent - 1)
up c = let p = c.requires in above p.0 p.1 (omega (arith, c.if-above-eq0.false, c.parent_of-above.ensures.0))

-- the placement that it is joined to
is_up : (c : Else-above-eq0) → let a = c.args in c.parent_of-above.result - 1 ≡ (joins_in a.links.now a.k).parent - 1
is_up c = ap (λ (x : ℕ). x - 1) c.parent_of-above.ensures.0

pub step_at-requires : goal.step_at-requires
step_at-requires c = (omega (arith, is_up (goal.at.step_at-requires c).Else-above-eq0, up (goal.at.step_at-requires c).Else-above-eq0, c.requires.2.long), small c.requires.0 c.requires.1)

pub overflow_mul-above : goal.overflow_mul-above
overflow_mul-above c = omega (arith, is_up (goal.at.overflow_mul-above c).Else-above-eq0, small c.requires.0 (up (goal.at.overflow_mul-above c).Else-above-eq0))

pub overflow_add-above : goal.overflow_add-above
overflow_add-above c = omega (arith, is_up (goal.at.overflow_add-above c).Else-above-eq0, small c.requires.0 (up (goal.at.overflow_add-above c).Else-above-eq0))

pub core_at-requires : goal.core_at-requires
core_at-requires c = omega (arith, is_up (goal.at.core_at-requires c).Else-above-eq0, up (goal.at.core_at-requires c).Else-above-eq0, c.requires.3.long)

pub returns : goal.returns
returns c =
    let p = c.requires in
    let l = c.args.links.now in
    let k = c.args.k in
    let a = (joins_in l k).parent - 1 in
    let u = up (goal.at.returns c).Else-above-eq0 in
    let n = is_up (goal.at.returns c).Else-above-eq0 in
    let e = c.core_at.ensures ∙ ap (λ (x : ℕ). core_at c.args.counts.now (2 * x + 1)) n ∙ p.3.made a u.low (omega (arith, u)) (omega (arith, earlier p.0 p.1)) in
    let d = c.step_at.ensures ∙ ap (λ (x : ℕ). get_or (get_or c.args.rows.now x []) k 0) n ∙ step_own p.0 p.2 p.1 u in
    c.grown.ensures
    ∙ rw (waits (goal.at.returns c).After-core_at-v, d, e)
    (grown_small (own_small p.0 (place_in c.args.book.now l a) (joins_in l k).site) (omega (arith, far_small p.0 (place_in c.args.book.now l a) (joins_in l a).own (joins_in l k).site)) (from_small p.0 a a (omega (arith, small p.0 u)))
    ∙ begun_later p.0 p.1 u.low)
