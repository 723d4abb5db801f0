use Prim.Native.Nat.{ℕ, suc, ◌+◌, ◌-◌, ◌*◌, ◌≤◌, ◌<◌}
use mathlib.Core.Path.{◌≡◌, refl, sym, ap, ◌∙◌}
use native.Mathlib.Nat.{mul-le-mul}
use native.Mathlib.Numerals.{add-one}
use native.Mathlib.Omega.{arith}
use Rattle.graph.specs.Graph.{each}
use Rattle.std.specs.Prelude.{Err}
use Rattle.reply.specs.Read.{read}
use Rattle.block.specs.Block.{most_atoms, graph_of, drawn_reply}
use Rattle.block.specs.Numbered.{drawn_bytes}
use Rattle.reach.proofs.Levels.{of_next, few, level_start, shallow, low, spare, grows, fits, stuck, upto_next, counts_next, all_here, met_next, level_next, odd_less, level_end, not_of, of_reached}
use Rattle.reach.specs.Reach.{Added, LowSums, LevelsUpTo, of_level, up_to}
use Rattle.reach.proofs.summed.Goals as goal
use Rattle.reach.proofs.summed.Goals.{After-count, After-farther, After-loop-met, After-next_level-more, Else-more-met, In-loop-met, Then-all_next}

pub overflow_mul-pairs : goal.overflow_mul-pairs
overflow_mul-pairs c = let l = (few _ _ c.requires.0).high in omega (arith, mul-le-mul l l)

pub with_neighbours-requires : goal.with_neighbours-requires
with_neighbours-requires c = let l = (few _ _ c.requires.0).high in (l, l, l)

pub overflow_add-met : goal.overflow_add-met
overflow_add-met c = let f = c.requires.0 in omega (arith, few _ _ f, (drawn_bytes _ _ f).0)

pub first-d-requires : goal.first-d-requires
first-d-requires c = tt

pub loop-met-init : goal.loop-met-init
loop-met-init c =
    let p = c.requires in
    (refl, refl, c.odd-2-1.given, c.even-2-1.given, rw c.first-d.ensures (level_start _ _ p.0 _ _ p.1 p.2 c.with_neighbours.ensures p.4))

drawn-in : (c : In-loop-met) → let a = c.args in drawn_reply a.n a.bonds.now ≡ read tt
drawn-in c = c.requires.0

drawn-in-in-Then-all_next : (c : Then-all_next) → let a = c.args in drawn_reply a.n a.bonds.now ≡ read tt
drawn-in-in-Then-all_next c = c.requires.0

drawn-in-in-After-farther : (c : After-farther) → let a = c.args in drawn_reply a.n a.bonds.now ≡ read tt
drawn-in-in-After-farther c = c.requires.0

drawn-in-in-After-next_level-more : (c : After-next_level-more) → let a = c.args in drawn_reply a.n a.bonds.now ≡ read tt
drawn-in-in-After-next_level-more c = c.requires.0

more-in : (c : In-loop-met) → let n = c.args.n in c.loop-met.met < n * n
more-in c = omega (arith, c.loop-met-test.true, c.loop-met.invariant.0)

more-in-in-Then-all_next : (c : Then-all_next) → let n = c.args.n in c.loop-met.met < n * n
more-in-in-Then-all_next c = omega (arith, c.loop-met-test.true, c.loop-met.invariant.0)

more-in-in-After-farther : (c : After-farther) → let n = c.args.n in c.loop-met.met < n * n
more-in-in-After-farther c = omega (arith, c.loop-met-test.true, c.loop-met.invariant.0)

more-in-in-After-next_level-more : (c : After-next_level-more) → let n = c.args.n in c.loop-met.met < n * n
more-in-in-After-next_level-more c = omega (arith, c.loop-met-test.true, c.loop-met.invariant.0)

shallow-in : (c : In-loop-met) → suc c.loop-met.d < c.args.n
shallow-in c = shallow _ _ (drawn-in c) c.loop-met.invariant.4 (more-in c)

pub of_level-near-requires : goal.of_level-near-requires
of_level-near-requires c = tt

-- so many pairs more are met one bond farther
farther-in : (t : In-loop-met) {met' : ℕ} →
    let l = t.loop-met in
    let a = t.args in
    met' ≡ up_to (graph_of a.n a.bonds.now) each (suc l.d) → LowSums l.s × (l.d + 1 ≤ most_atoms) × (met' - l.met ≤ most_atoms * most_atoms)
farther-in t e =
    let f = drawn-in t in
    let L = t.loop-met.invariant.4 in
    (low _ _ f L (more-in t), omega (arith, shallow-in t, few _ _ f), fits _ _ f L (more-in t) e)

pub count-requires : goal.count-requires
count-requires c =
    let p = c.requires in
    let l = c.loop-met.invariant in
    (omega (arith, p.2, few _ _ p.0), omega (arith, p.3, l.1), spare _ _ p.0 l.4 (more-in (goal.at.count-requires c).In-loop-met))

-- what was reached is counted
added-in : (c : After-count) →
    let x = c.loop-met in
    Added c.args.k (of_level x.d x.odd x.even) x.reached c.count.new.reached
added-in c = rw c.of_level-near.ensures at c.count.ensures

pub overflow_sub-pairs : goal.overflow_sub-pairs
overflow_sub-pairs c = omega (arith, c.loop-met-test.true)

pub all_next-requires : goal.all_next-requires
all_next-requires c = (few _ _ (drawn-in (goal.at.all_next-requires c).In-loop-met)).high

all_found : (c : Then-all_next) →
    let a = c.args in
    a.n * a.n ≡ up_to (graph_of a.n a.bonds.now) each (suc c.loop-met.d)
all_found c =
    all_here _ _ (drawn-in-in-Then-all_next c) c.loop-met.invariant.4 (more-in-in-Then-all_next c) _ c.requires.1
    (rw c.of_level-near.ensures at (c.all_next.ensures c.if-all_next.true))

all_found-in-After-farther : (c : After-farther) →
    let a = c.args in
    a.n * a.n ≡ up_to (graph_of a.n a.bonds.now) each (suc c.loop-met.d)
all_found-in-After-farther c =
    all_here _ _ (drawn-in-in-After-farther c) c.loop-met.invariant.4 (more-in-in-After-farther c) _ c.requires.1
    (rw c.of_level-near.ensures at (c.all_next.ensures c.if-all_next.true))

pub overflow_add-d : goal.overflow_add-d
overflow_add-d c = omega (arith, shallow-in (goal.at.overflow_add-d c).In-loop-met, few _ _ (drawn-in (goal.at.overflow_add-d c).In-loop-met))

pub overflow_sub-pairs-then-all_next : goal.overflow_sub-pairs-then-all_next
overflow_sub-pairs-then-all_next c = omega (arith, c.loop-met-test.true)

pub farther-requires : goal.farther-requires
farther-requires c = farther-in (goal.at.farther-requires c).In-loop-met (all_found (goal.at.farther-requires c).Then-all_next)

finished-in : (c : After-farther) →
    let a = c.args in
    LevelsUpTo (graph_of a.n a.bonds.now) (c.loop-met.d + 1) (a.n * a.n) c.farther.result
finished-in c =
    rw (c.farther.ensures, add-one c.loop-met.d) (upto_next _ _ (drawn-in-in-After-farther c) c.loop-met.invariant.4 (more-in-in-After-farther c) (all_found-in-After-farther c) (λ e. omega (arith, more-in-in-After-farther c)))

pub overflow_add-d-then-all_next : goal.overflow_add-d-then-all_next
overflow_add-d-then-all_next c = overflow_add-d (goal.at.overflow_add-d-then-all_next c).Then-all_next

pub finished-requires : goal.finished-requires
finished-requires c = odd_less _ _ (drawn-in (goal.at.finished-requires c).In-loop-met) (finished-in (goal.at.finished-requires c).After-farther) (omega arith)

pub returns-then-all_next : goal.returns-then-all_next
returns-then-all_next c =
    let p = c.requires in
    let f = c.finished.ensures in record {
      reply = f ∙ level_end _ _ p.0 (finished-in (goal.at.returns-then-all_next c).After-farther) (omega arith);
      reached = λ x e. of_reached _ x (sym f ∙ e)
          (rw (add-one c.loop-met.d) (counts_next _ _ p.0 c.loop-met.invariant.4 (more-in (goal.at.returns-then-all_next c).In-loop-met) p.2 _ (added-in (goal.at.returns-then-all_next c).After-count)));
    }

pub slice_bounds-next_level-end : goal.slice_bounds-next_level-end
slice_bounds-next_level-end c = sym c.loop-met.invariant.2

pub slice_bounds-next_level-end-in-loop-met : goal.slice_bounds-next_level-end-in-loop-met
slice_bounds-next_level-end-in-loop-met c = sym c.loop-met.invariant.3

pub next_level-more-requires : goal.next_level-more-requires
next_level-more-requires c =
    (drawn-in (goal.at.next_level-more-requires c).In-loop-met, c.loop-met.invariant.2, c.loop-met.invariant.3)

found : (c : After-next_level-more) →
    let a = c.args in
    c.next_level-more.result ≡ up_to (graph_of a.n a.bonds.now) each (suc c.loop-met.d)
found c = met_next _ _ (drawn-in-in-After-next_level-more c) c.loop-met.invariant.4 (more-in-in-After-next_level-more c) c.next_level-more.ensures.next

pub returns-then-more-met : goal.returns-then-more-met
returns-then-more-met c =
    record { reply = ap Err c.at.ensures ∙ stuck _ _ (drawn-in (goal.at.returns-then-more-met c).In-loop-met) c.loop-met.invariant.4 (more-in (goal.at.returns-then-more-met c).In-loop-met) (found (goal.at.returns-then-more-met c).After-next_level-more) (omega (arith, c.if-more-met.true)); reached = λ x e. absurd (not_of e) }

pub overflow_add-d-in-loop-met : goal.overflow_add-d-in-loop-met
overflow_add-d-in-loop-met c = omega (arith, shallow-in (goal.at.overflow_add-d-in-loop-met c).In-loop-met, few _ _ (drawn-in (goal.at.overflow_add-d-in-loop-met c).In-loop-met))

pub overflow_sub-more : goal.overflow_sub-more
overflow_sub-more c = grows _ _ (drawn-in (goal.at.overflow_sub-more c).In-loop-met) c.loop-met.invariant.4 (more-in (goal.at.overflow_sub-more c).In-loop-met) (found (goal.at.overflow_sub-more c).After-next_level-more)

pub farther-s-requires : goal.farther-s-requires
farther-s-requires c = farther-in (goal.at.farther-s-requires c).In-loop-met (found (goal.at.farther-s-requires c).After-next_level-more)

pub loop-met-smaller : goal.loop-met-smaller
loop-met-smaller c =
    omega (arith, overflow_sub-more (goal.at.loop-met-smaller c).Else-more-met, c.if-more-met.false, c.loop-met-test.true)

pub loop-met-preserved : goal.loop-met-preserved
loop-met-preserved c =
    let p = c.requires in
    let l = c.loop-met in
    let A = added-in (goal.at.loop-met-preserved c).After-count in (
      refl,
      omega (arith, A.same, l.invariant.1),
      c.odd-in-loop-met-3-1.given,
      c.even-in-loop-met-3-1.given,
      rw (of_next l.d, of_next l.d, c.next_level-more.ensures.kept, c.farther-s.ensures)
          (level_next _ _ p.0 l.invariant.4 (more-in (goal.at.loop-met-preserved c).In-loop-met) c.next_level-more.ensures.next p.2 (λ e. omega (arith, c.if-more-met.false)) _ A),
    )

-- in the end: no pair is left
over : (c : After-loop-met) → let n = c.args.n in n * n ≤ c.loop-met.met
over c = omega (arith, c.loop-met.invariant.0, c.loop-met-test.false)

pub finished-requires-2 : goal.finished-requires-2
finished-requires-2 c = odd_less _ _ c.requires.0 c.loop-met.invariant.4.upto (over (goal.at.finished-requires-2 c).After-loop-met)

pub returns : goal.returns
returns c =
    let L = c.loop-met.invariant.4 in
    let f = c.finished-2.ensures in
    record { reply = f ∙ level_end _ _ c.requires.0 L.upto (over (goal.at.returns c).After-loop-met); reached = λ x e. of_reached _ x (sym f ∙ e) L.counts }

pub slice_bounds-with_neighbours-end : goal.slice_bounds-with_neighbours-end
slice_bounds-with_neighbours-end c = refl

pub slice_bounds-with_neighbours-end-2 : goal.slice_bounds-with_neighbours-end-2
slice_bounds-with_neighbours-end-2 c = refl
