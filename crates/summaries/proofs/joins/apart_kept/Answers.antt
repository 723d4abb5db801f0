use Prim.Native.Nat.{ℕ, ◌+◌, ◌-◌, ◌<◌}
use mathlib.Core.List.{[]}
use mathlib.Core.Path.{◌≡◌, ◌∙◌, ap}
use native.Mathlib.Omega.{arith}
use lib.ListN.{get_or}
use Rattle.graph.specs.Graph.{Within}
use Rattle.summaries.specs.Ready.{joins_in, between}
use Rattle.summaries.proofs.Ports.{small, earlier, above, between_small, between_first, step_own}
use Rattle.summaries.proofs.joins.apart_kept.Goals as goal
use Rattle.summaries.proofs.joins.apart_kept.Goals.{After-step_at, Then-p-q}

-- `summaries::joins::apart_kept` meets its contract. Assumes nothing.
pub parent_of-q-requires : goal.parent_of-q-requires
parent_of-q-requires c = let p = c.requires in small p.0 p.1

-- the parent of m is later than that of k
later : (c : Then-p-q) → let a = c.args in (joins_in a.links.now a.k).parent < (joins_in a.links.now a.m).parent
later c = omega (arith, c.if-p-q.true, c.parent_of-q.ensures.0, c.requires.4)

later-in-After-step_at : (c : After-step_at) → let a = c.args in (joins_in a.links.now a.k).parent < (joins_in a.links.now a.m).parent
later-in-After-step_at c = omega (arith, c.if-p-q.true, c.parent_of-q.ensures.0, c.requires.4)

-- so it is joined itself, before m
up : (c : Then-p-q) → let a = c.args in Within (a.count - 1) ((joins_in a.links.now a.m).parent - 1)
up c = let p = c.requires in above p.0 p.1 (omega (arith, later c, earlier p.0 p.2))

up-in-After-step_at : (c : After-step_at) → let a = c.args in Within (a.count - 1) ((joins_in a.links.now a.m).parent - 1)
up-in-After-step_at c = let p = c.requires in above p.0 p.1 (omega (arith, later-in-After-step_at c, earlier p.0 p.2))

index : (c : Then-p-q) → let a = c.args in c.parent_of-q.result - 1 ≡ (joins_in a.links.now a.m).parent - 1
index c = ap (λ (x : ℕ). x - 1) c.parent_of-q.ensures.0

index-in-After-step_at : (c : After-step_at) → let a = c.args in c.parent_of-q.result - 1 ≡ (joins_in a.links.now a.m).parent - 1
index-in-After-step_at c = ap (λ (x : ℕ). x - 1) c.parent_of-q.ensures.0

before-m : (c : Then-p-q) → c.parent_of-q.result - 1 < c.args.m
before-m c = let p = c.requires in omega (arith, index c, up c, earlier p.0 p.1)

before-m-in-After-step_at : (c : After-step_at) → c.parent_of-q.result - 1 < c.args.m
before-m-in-After-step_at c = let p = c.requires in omega (arith, index-in-After-step_at c, up-in-After-step_at c, earlier p.0 p.1)

-- and its distance is kept
kept : (c : Then-p-q) → let a = c.args in get_or a.far.now (c.parent_of-q.result - 1) 0 ≡ between a.book.now a.links.now ((joins_in a.links.now a.m).parent - 1) a.k
kept c =
    ap (λ (x : ℕ). get_or c.args.far.now x 0) (index c) ∙ c.requires.6.known ((joins_in c.args.links.now c.args.m).parent - 1) (omega (arith, later c)) (omega (arith, index c, before-m c))

kept-in-After-step_at : (c : After-step_at) → let a = c.args in get_or a.far.now (c.parent_of-q.result - 1) 0 ≡ between a.book.now a.links.now ((joins_in a.links.now a.m).parent - 1) a.k
kept-in-After-step_at c =
    ap (λ (x : ℕ). get_or c.args.far.now x 0) (index-in-After-step_at c) ∙ c.requires.6.known ((joins_in c.args.links.now c.args.m).parent - 1) (omega (arith, later-in-After-step_at c)) (omega (arith, index-in-After-step_at c, before-m-in-After-step_at c))

pub offset_bounds-far-q : goal.offset_bounds-far-q
offset_bounds-far-q c = let p = c.requires in omega (arith, before-m (goal.at.offset_bounds-far-q c).Then-p-q, small p.0 p.1)

pub bounds-far-q : goal.bounds-far-q
bounds-far-q c = omega (arith, before-m (goal.at.bounds-far-q c).Then-p-q, c.requires.5)

pub overflow_add-result : goal.overflow_add-result
overflow_add-result c = omega (arith, kept (goal.at.overflow_add-result c).Then-p-q, between_small c.requires.0 ((joins_in c.args.links.now c.args.m).parent - 1) c.args.k)

pub step_at-requires : goal.step_at-requires
step_at-requires c = let p = c.requires in (omega (arith, index (goal.at.step_at-requires c).Then-p-q, up (goal.at.step_at-requires c).Then-p-q, p.3.long), small p.0 p.1)

-- one climbing step
climbed : (c : After-step_at) → let a = c.args in
    get_or a.far.now (c.parent_of-q.result - 1) 0 + 1 + c.step_at.result ≡ between a.book.now a.links.now a.m a.k
climbed c =
    let p = c.requires in
    let e = c.step_at.ensures ∙ ap (λ (x : ℕ). get_or (get_or c.args.rows.now x []) c.args.m 0) (index-in-After-step_at c) ∙ step_own p.0 p.3 p.1 (up-in-After-step_at c) in
    omega (arith, between_first p.0 p.1 p.2 (later-in-After-step_at c), e, kept-in-After-step_at c)

pub overflow_add-result-then-p-q : goal.overflow_add-result-then-p-q
overflow_add-result-then-p-q c = omega (arith, climbed (goal.at.overflow_add-result-then-p-q c).After-step_at, between_small c.requires.0 c.args.m c.args.k)

pub returns-then-p-q : goal.returns-then-p-q
returns-then-p-q c = omega (arith, climbed (goal.at.returns-then-p-q c).After-step_at)
