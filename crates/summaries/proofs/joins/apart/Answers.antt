use Prim.Native.Nat.{ℕ, ◌+◌, ◌-◌, ◌^◌, ◌<◌}
use mathlib.Core.List.{List, []}
use mathlib.Core.Path.{◌≡◌, sym, ◌∙◌, ap}
use native.Mathlib.Omega.{arith}
use lib.ListN.{length, get_or}
use Rattle.graph.specs.Graph.{Within}
use Rattle.summaries.specs.Ready.{joins_in, between}
use Rattle.summaries.proofs.Ports.{small, earlier, above, between_small, between_same, between_first, between_second, step_own}
use Rattle.summaries.specs.Ready.{ReadyShelf}
use Rattle.summaries.proofs.joins.apart.Goals as goal
use Rattle.summaries.proofs.joins.apart.Goals.{After-parent_of-first, After-parent_of-second, After-step_at, After-step_at-else-first-second-2, After-step_at-then-first-second-2, At-loop-count, Else-first-second-2, Then-first-second-2}

pub loop-count-init : goal.loop-count-init
loop-count-init c = (c.requires.1, c.requires.2, omega arith)

-- no sum wraps
left : (c : At-loop-count) → let a = c.args in c.loop-count.d + between a.book.now a.links.now c.loop-count.u c.loop-count.v < 2 ^ 14
left c = let a = c.args in omega (arith, c.loop-count.invariant.2, between_small c.requires.0 a.x a.y)

-- an index of a join is one of a row
row : (c : At-loop-count) (k : ℕ) → Within (c.args.count - 1) k → k < length c.args.rows.now
row c k w = omega (arith, w, c.requires.3.long)

pub parent_of-first-requires : goal.parent_of-first-requires
parent_of-first-requires c = small c.requires.0 c.loop-count.invariant.0

pub parent_of-second-requires : goal.parent_of-second-requires
parent_of-second-requires c = small c.requires.0 c.loop-count.invariant.1

first-is : (c : After-parent_of-first) → c.parent_of-first.result ≡ (joins_in c.args.links.now c.loop-count.u).parent
first-is c = c.parent_of-first.ensures.0

first-is-in-After-step_at : (c : After-step_at) → c.parent_of-first.result ≡ (joins_in c.args.links.now c.loop-count.u).parent
first-is-in-After-step_at c = c.parent_of-first.ensures.0

first-is-in-Then-first-second-2 : (c : Then-first-second-2) → c.parent_of-first.result ≡ (joins_in c.args.links.now c.loop-count.u).parent
first-is-in-Then-first-second-2 c = c.parent_of-first.ensures.0

first-is-in-After-step_at-then-first-second-2 : (c : After-step_at-then-first-second-2) → c.parent_of-first.result ≡ (joins_in c.args.links.now c.loop-count.u).parent
first-is-in-After-step_at-then-first-second-2 c = c.parent_of-first.ensures.0

first-is-in-Else-first-second-2 : (c : Else-first-second-2) → c.parent_of-first.result ≡ (joins_in c.args.links.now c.loop-count.u).parent
first-is-in-Else-first-second-2 c = c.parent_of-first.ensures.0

first-is-in-After-step_at-else-first-second-2 : (c : After-step_at-else-first-second-2) → c.parent_of-first.result ≡ (joins_in c.args.links.now c.loop-count.u).parent
first-is-in-After-step_at-else-first-second-2 c = c.parent_of-first.ensures.0

second_is : (c : After-parent_of-second) → c.parent_of-second.result ≡ (joins_in c.args.links.now c.loop-count.v).parent
second_is c = c.parent_of-second.ensures.0

second_is-in-After-step_at : (c : After-step_at) → c.parent_of-second.result ≡ (joins_in c.args.links.now c.loop-count.v).parent
second_is-in-After-step_at c = c.parent_of-second.ensures.0

second_is-in-Then-first-second-2 : (c : Then-first-second-2) → c.parent_of-second.result ≡ (joins_in c.args.links.now c.loop-count.v).parent
second_is-in-Then-first-second-2 c = c.parent_of-second.ensures.0

second_is-in-After-step_at-then-first-second-2 : (c : After-step_at-then-first-second-2) → c.parent_of-second.result ≡ (joins_in c.args.links.now c.loop-count.v).parent
second_is-in-After-step_at-then-first-second-2 c = c.parent_of-second.ensures.0

second_is-in-Else-first-second-2 : (c : Else-first-second-2) → c.parent_of-second.result ≡ (joins_in c.args.links.now c.loop-count.v).parent
second_is-in-Else-first-second-2 c = c.parent_of-second.ensures.0

second_is-in-After-step_at-else-first-second-2 : (c : After-step_at-else-first-second-2) → c.parent_of-second.result ≡ (joins_in c.args.links.now c.loop-count.v).parent
second_is-in-After-step_at-else-first-second-2 c = c.parent_of-second.ensures.0

pub step_at-requires : goal.step_at-requires
step_at-requires c = (row (goal.at.step_at-requires c).At-loop-count _ c.loop-count.invariant.0, small c.requires.0 c.loop-count.invariant.1)

-- the row of the first one says it
same-far : (c : After-step_at) → let a = c.args in c.step_at.result ≡ between a.book.now a.links.now c.loop-count.u c.loop-count.v
same-far c =
    let r = c.requires in
    let w = c.loop-count.invariant.0 in
    let v = c.loop-count.invariant.1 in
    let e = sym (first-is-in-After-step_at c) ∙ c.if-first-second.true ∙ second_is-in-After-step_at c in
    c.step_at.ensures ∙ r.3.site c.loop-count.u c.loop-count.v w.low (omega (arith, w)) v.low (omega (arith, v)) (sym e) ∙ sym (between_same r.0 w v e)

pub overflow_add-result : goal.overflow_add-result
overflow_add-result c = omega (arith, left (goal.at.overflow_add-result c).At-loop-count, same-far (goal.at.overflow_add-result c).After-step_at)

pub returns-then-first-second : goal.returns-then-first-second
returns-then-first-second c = omega (arith, c.loop-count.invariant.2, same-far (goal.at.returns-then-first-second c).After-step_at)

-- the parent of one that is joined later than another is joined itself
up : {book links : List ℕ} {count x y : ℕ} → ReadyShelf book links count → Within (count - 1) x → Within (count - 1) y →
    (joins_in links y).parent < (joins_in links x).parent → Within (count - 1) ((joins_in links x).parent - 1)
up r w v h = above r w (omega (arith, h, earlier r v))

-- the second one's parent is the later one
second-later : (c : Then-first-second-2) → (joins_in c.args.links.now c.loop-count.u).parent < (joins_in c.args.links.now c.loop-count.v).parent
second-later c = omega (arith, c.if-first-second-2.true, first-is-in-Then-first-second-2 c, second_is-in-Then-first-second-2 c)

second-later-in-After-step_at-then-first-second-2 : (c : After-step_at-then-first-second-2) → (joins_in c.args.links.now c.loop-count.u).parent < (joins_in c.args.links.now c.loop-count.v).parent
second-later-in-After-step_at-then-first-second-2 c = omega (arith, c.if-first-second-2.true, first-is-in-After-step_at-then-first-second-2 c, second_is-in-After-step_at-then-first-second-2 c)

second-joined : (c : Then-first-second-2) → Within (c.args.count - 1) ((joins_in c.args.links.now c.loop-count.v).parent - 1)
second-joined c = up c.requires.0 c.loop-count.invariant.1 c.loop-count.invariant.0 (second-later c)

second-joined-in-After-step_at-then-first-second-2 : (c : After-step_at-then-first-second-2) → Within (c.args.count - 1) ((joins_in c.args.links.now c.loop-count.v).parent - 1)
second-joined-in-After-step_at-then-first-second-2 c = up c.requires.0 c.loop-count.invariant.1 c.loop-count.invariant.0 (second-later-in-After-step_at-then-first-second-2 c)

pub overflow_add-d : goal.overflow_add-d
overflow_add-d c = omega (arith, left (goal.at.overflow_add-d c).At-loop-count)

pub overflow_sub-second : goal.overflow_sub-second
overflow_sub-second c = omega (arith, second_is (goal.at.overflow_sub-second c).After-parent_of-second, second-joined (goal.at.overflow_sub-second c).Then-first-second-2)

pub step_at-requires-then-first-second-2 : goal.step_at-requires-then-first-second-2
step_at-requires-then-first-second-2 c = (omega (arith, second_is (goal.at.step_at-requires-then-first-second-2 c).After-parent_of-second, row (goal.at.step_at-requires-then-first-second-2 c).At-loop-count _ (second-joined (goal.at.step_at-requires-then-first-second-2 c).Then-first-second-2)), small c.requires.0 c.loop-count.invariant.1)

second-far : (c : After-step_at-then-first-second-2) → let a = c.args in
    between a.book.now a.links.now c.loop-count.u c.loop-count.v ≡ between a.book.now a.links.now ((joins_in a.links.now c.loop-count.v).parent - 1) c.loop-count.u + 1 + c.step_at-then-first-second-2.result
second-far c =
    let p = c.requires in
    let e = c.step_at-then-first-second-2.ensures ∙ ap (λ (x : ℕ). get_or (get_or c.args.rows.now (x - 1) []) c.loop-count.v 0) (second_is-in-After-step_at-then-first-second-2 c) ∙ step_own p.0 p.3 c.loop-count.invariant.1 (second-joined-in-After-step_at-then-first-second-2 c) in
    omega (arith, between_second p.0 c.loop-count.invariant.0 c.loop-count.invariant.1 (second-later-in-After-step_at-then-first-second-2 c), e)

pub overflow_add-d-then-first-second-2 : goal.overflow_add-d-then-first-second-2
overflow_add-d-then-first-second-2 c = omega (arith, left (goal.at.overflow_add-d-then-first-second-2 c).At-loop-count, second-far (goal.at.overflow_add-d-then-first-second-2 c).After-step_at-then-first-second-2)

pub overflow_sub-u : goal.overflow_sub-u
overflow_sub-u c = omega (arith, second_is (goal.at.overflow_sub-u c).After-parent_of-second, second-joined (goal.at.overflow_sub-u c).Then-first-second-2)

pub loop-count-smaller-then-first-second-2 : goal.loop-count-smaller-then-first-second-2
loop-count-smaller-then-first-second-2 c =
    let r = c.requires.0 in
    let e = ap (λ (x : ℕ). (joins_in c.args.links.now (x - 1)).parent) (second_is (goal.at.loop-count-smaller-then-first-second-2 c).After-parent_of-second) in
    omega (arith, e, earlier r (second-joined (goal.at.loop-count-smaller-then-first-second-2 c).Then-first-second-2), earlier r c.loop-count.invariant.1)

pub loop-count-preserved-then-first-second-2 : goal.loop-count-preserved-then-first-second-2
loop-count-preserved-then-first-second-2 c =
    let a = c.args in
    let e = ap (λ (x : ℕ). x - 1) (second_is (goal.at.loop-count-preserved-then-first-second-2 c).After-parent_of-second) in
    (omega (arith, e, second-joined (goal.at.loop-count-preserved-then-first-second-2 c).Then-first-second-2), c.loop-count.invariant.0, omega (arith, c.loop-count.invariant.2, second-far (goal.at.loop-count-preserved-then-first-second-2 c).After-step_at-then-first-second-2, ap (λ (x : ℕ). between a.book.now a.links.now x c.loop-count.u) e))

-- or the first one's
first-later : (c : Else-first-second-2) → (joins_in c.args.links.now c.loop-count.v).parent < (joins_in c.args.links.now c.loop-count.u).parent
first-later c = omega (arith, c.if-first-second-2.false, c.if-first-second.false, first-is-in-Else-first-second-2 c, second_is-in-Else-first-second-2 c)

first-later-in-After-step_at-else-first-second-2 : (c : After-step_at-else-first-second-2) → (joins_in c.args.links.now c.loop-count.v).parent < (joins_in c.args.links.now c.loop-count.u).parent
first-later-in-After-step_at-else-first-second-2 c = omega (arith, c.if-first-second-2.false, c.if-first-second.false, first-is-in-After-step_at-else-first-second-2 c, second_is-in-After-step_at-else-first-second-2 c)

first-joined : (c : Else-first-second-2) → Within (c.args.count - 1) ((joins_in c.args.links.now c.loop-count.u).parent - 1)
first-joined c = up c.requires.0 c.loop-count.invariant.0 c.loop-count.invariant.1 (first-later c)

first-joined-in-After-step_at-else-first-second-2 : (c : After-step_at-else-first-second-2) → Within (c.args.count - 1) ((joins_in c.args.links.now c.loop-count.u).parent - 1)
first-joined-in-After-step_at-else-first-second-2 c = up c.requires.0 c.loop-count.invariant.0 c.loop-count.invariant.1 (first-later-in-After-step_at-else-first-second-2 c)

pub overflow_add-d-else-first-second-2 : goal.overflow_add-d-else-first-second-2
overflow_add-d-else-first-second-2 c = omega (arith, left (goal.at.overflow_add-d-else-first-second-2 c).At-loop-count)

pub overflow_sub-first : goal.overflow_sub-first
overflow_sub-first c = omega (arith, first-is (goal.at.overflow_sub-first c).After-parent_of-first, first-joined (goal.at.overflow_sub-first c).Else-first-second-2)

pub step_at-requires-else-first-second-2 : goal.step_at-requires-else-first-second-2
step_at-requires-else-first-second-2 c = (omega (arith, first-is (goal.at.step_at-requires-else-first-second-2 c).After-parent_of-first, row (goal.at.step_at-requires-else-first-second-2 c).At-loop-count _ (first-joined (goal.at.step_at-requires-else-first-second-2 c).Else-first-second-2)), small c.requires.0 c.loop-count.invariant.0)

first-far : (c : After-step_at-else-first-second-2) → let a = c.args in
    between a.book.now a.links.now c.loop-count.u c.loop-count.v ≡ c.step_at-else-first-second-2.result + 1 + between a.book.now a.links.now ((joins_in a.links.now c.loop-count.u).parent - 1) c.loop-count.v
first-far c =
    let p = c.requires in
    let e = c.step_at-else-first-second-2.ensures ∙ ap (λ (x : ℕ). get_or (get_or c.args.rows.now (x - 1) []) c.loop-count.u 0) (first-is-in-After-step_at-else-first-second-2 c) ∙ step_own p.0 p.3 c.loop-count.invariant.0 (first-joined-in-After-step_at-else-first-second-2 c) in
    omega (arith, between_first p.0 c.loop-count.invariant.0 c.loop-count.invariant.1 (first-later-in-After-step_at-else-first-second-2 c), e)

pub overflow_add-d-else-first-second-2-2 : goal.overflow_add-d-else-first-second-2-2
overflow_add-d-else-first-second-2-2 c = omega (arith, left (goal.at.overflow_add-d-else-first-second-2-2 c).At-loop-count, first-far (goal.at.overflow_add-d-else-first-second-2-2 c).After-step_at-else-first-second-2)

pub overflow_sub-u-else-first-second-2 : goal.overflow_sub-u-else-first-second-2
overflow_sub-u-else-first-second-2 c = omega (arith, first-is (goal.at.overflow_sub-u-else-first-second-2 c).After-parent_of-first, first-joined (goal.at.overflow_sub-u-else-first-second-2 c).Else-first-second-2)

pub loop-count-smaller : goal.loop-count-smaller
loop-count-smaller c =
    let r = c.requires.0 in
    let e = ap (λ (x : ℕ). (joins_in c.args.links.now (x - 1)).parent) (first-is (goal.at.loop-count-smaller c).After-parent_of-first) in
    omega (arith, e, earlier r (first-joined (goal.at.loop-count-smaller c).Else-first-second-2), earlier r c.loop-count.invariant.0)

pub loop-count-preserved : goal.loop-count-preserved
loop-count-preserved c =
    let a = c.args in
    let e = ap (λ (x : ℕ). x - 1) (first-is (goal.at.loop-count-preserved c).After-parent_of-first) in
    (omega (arith, e, first-joined (goal.at.loop-count-preserved c).Else-first-second-2), c.loop-count.invariant.1, omega (arith, c.loop-count.invariant.2, first-far (goal.at.loop-count-preserved c).After-step_at-else-first-second-2, ap (λ (x : ℕ). between a.book.now a.links.now x c.loop-count.v) e))
