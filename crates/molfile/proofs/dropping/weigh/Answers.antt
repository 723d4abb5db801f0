use Prim.Native.Nat.{suc, ◌+◌, ◌-◌, ◌*◌, ◌≤◌, ◌<◌}
use mathlib.Core.Path.{◌≡◌, sym, ap}
use lib.ListN.{length, get_or, set}
use Rattle.molfile.specs.Work.{most, bond_by}
use Rattle.molfile.proofs.Weighing.{heft_small, back_small, weight_small, weighed_none, weighed_more, set_below}
use native.Mathlib.Omega.{arith}
use Rattle.molfile.proofs.dropping.weigh.Goals as goal
use Rattle.molfile.proofs.dropping.weigh.Goals.{After-heft, After-wide_two-a, After-wide_two-b}

-- the ends of bond k
one : (c : After-wide_two-a) → let l = c.loop-k in
    (suc (c.wide_two-a.result - 1) ≡ get_or c.args.ones.now l.k 0) × (c.wide_two-a.result - 1 < most) × (1 ≤ c.wide_two-a.result)
one c = let l = c.loop-k in
    let w = c.requires.2.one l.k (omega arith) in
    (omega (arith, c.wide_two-a.ensures.0), omega (arith, c.wide_two-a.ensures.0), omega (arith, c.wide_two-a.ensures.0))

one-in-After-wide_two-b : (c : After-wide_two-b) → let l = c.loop-k in
    (suc (c.wide_two-a.result - 1) ≡ get_or c.args.ones.now l.k 0) × (c.wide_two-a.result - 1 < most) × (1 ≤ c.wide_two-a.result)
one-in-After-wide_two-b c = let l = c.loop-k in
    let w = c.requires.2.one l.k (omega arith) in
    (omega (arith, c.wide_two-a.ensures.0), omega (arith, c.wide_two-a.ensures.0), omega (arith, c.wide_two-a.ensures.0))

two : (c : After-wide_two-b) → let l = c.loop-k in
    (suc (c.wide_two-b.result - 1) ≡ get_or c.args.twos.now l.k 0) × (c.wide_two-b.result - 1 < most) × (1 ≤ c.wide_two-b.result)
two c = let l = c.loop-k in
    let w = c.requires.2.two l.k (omega arith) in
    (omega (arith, c.wide_two-b.ensures.0), omega (arith, c.wide_two-b.ensures.0), omega (arith, c.wide_two-b.ensures.0))

-- where they stand, and what the weights are there
spots : (c : After-wide_two-b) → let l = c.loop-k in let a = c.wide_two-a.result - 1 in let b = c.wide_two-b.result - 1 in
    (a < length l.weights) × (b < length l.weights) × (get_or l.weights a 0 ≤ 2 * most) × (get_or l.weights b 0 ≤ 2 * most)
spots c = let l = c.loop-k in let a = c.wide_two-a.result - 1 in
    let b = c.wide_two-b.result - 1 in
    let e = one-in-After-wide_two-b c in
    let f = two c in
    let w = l.invariant.1 in
    let f' = bond_by c.args.ones.now c.args.twos.now in
    let small : 2 * l.k ≤ 2 * most = omega (arith, c.requires.0) in
    (omega (arith, w.size), omega (arith, w.size), omega (arith, w.at a e.1, weight_small c.args.marks.now f' (suc a) l.k), omega (arith, w.at b f.1, weight_small c.args.marks.now f' (suc b) l.k))

first : (c : After-heft) → c.heft.result ≤ 2
first c = omega (arith, c.heft.ensures, heft_small (get_or c.args.marks.now (c.wide_two-b.result - 1) 0))

pub loop-k-init : goal.loop-k-init
loop-k-init c =
    (omega arith, rw c.requires.1 (weighed_none c.args.marks.now c.args.ones.now c.args.twos.now))

pub overflow_add-weights : goal.overflow_add-weights
overflow_add-weights c = let t = spots (goal.at.overflow_add-weights c).After-wide_two-b in omega (arith, t.2, first (goal.at.overflow_add-weights c).After-heft)

pub overflow_add-weights-in-loop-k : goal.overflow_add-weights-in-loop-k
overflow_add-weights-in-loop-k c =
    let w = c.loop-k.weights in
    let a = c.wide_two-a.result - 1 in
    let b = c.wide_two-b.result - 1 in
    let t = spots (goal.at.overflow_add-weights-in-loop-k c).After-wide_two-b in
    let h = first (goal.at.overflow_add-weights-in-loop-k c).After-heft in
    let x = get_or w a 0 + c.heft.result in
    let l = set_below w a b x 2000 t.0 (omega (arith, t.2)) (omega (arith, t.3)) in
    omega (arith, l, c.back.ensures, back_small a b (get_or c.args.marks.now a 0))

pub loop-k-preserved : goal.loop-k-preserved
loop-k-preserved c =
    let g = c.args in
    let w = c.loop-k.weights in
    let a = c.wide_two-a.result - 1 in
    let b = c.wide_two-b.result - 1 in
    let x = get_or w a 0 + c.heft.result in
    let y = get_or (set w a x) b 0 + c.back.result in
    let e = one (goal.at.loop-k-preserved c).After-wide_two-a in
    let f = two (goal.at.loop-k-preserved c).After-wide_two-b in
    (omega arith, weighed_more g.marks.now g.ones.now g.twos.now w c.loop-k.k a b x y e.1 f.1 (sym e.0) (sym f.0) (ap (λ n. get_or w a 0 + n) c.heft.ensures) (ap (λ n. get_or (set w a x) b 0 + n) c.back.ensures) c.loop-k.invariant.1)
