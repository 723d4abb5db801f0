use Prim.Native.Nat.{ℕ, ◌+◌, ◌/◌, ◌≤◌}
use mathlib.Core.Path.{◌≡◌}
use native.Mathlib.Nat.{le_refl}
use native.Mathlib.Omega.{arith}
use lib.ListN.{length, get_or}
use Rattle.block.specs.Block.{graph_of}
use Rattle.block.specs.Numbered.{bond_at}
use Rattle.block.specs.Lent.{filled_none, filled_store}
use Rattle.shares.specs.Work.{full, carried, StartRows}
use Rattle.shares.proofs.Flowing.{carried_low, there_fits, back_fits, flows}
use Rattle.shares.proofs.flows.add_flows.Goals as goal
use Rattle.shares.proofs.flows.add_flows.Goals.{After-passed-in-loop-k}

pub loop-k-init : goal.loop-k-init
loop-k-init c = (omega arith, λ n i d R. filled_none)

pub wide_byte-a-requires : goal.wide_byte-a-requires
wide_byte-a-requires c = tt

pub wide_byte-b-requires : goal.wide_byte-b-requires
wide_byte-b-requires c = tt

pub passed-requires : goal.passed-requires
passed-requires c =
    let p = c.requires.0 in
    there_fits p.3 c.loop-k.k c.loop-k-test.true c.wide_byte-a.result c.wide_byte-b.result c.wide_byte-a.ensures.0 c.wide_byte-b.ensures.0

pub passed-requires-in-loop-k : goal.passed-requires-in-loop-k
passed-requires-in-loop-k c =
    let p = c.requires.0 in
    back_fits p.3 c.loop-k.k c.loop-k-test.true c.wide_byte-a.result c.wide_byte-b.result c.wide_byte-a.ensures.0 c.wide_byte-b.ensures.0

-- what is added, and what it is added to
adds : (c : After-passed-in-loop-k) (n i d : ℕ)
    → let a = c.args in
    StartRows n a.bonds.now a.row.now a.c.now a.t.now i d
    → c.passed.result + c.passed-in-loop-k.result ≡ carried (graph_of n a.bonds.now) i d (bond_at a.bonds.now c.loop-k.k)
adds c n i d R =
    flows R c.loop-k.k c.loop-k-test.true c.wide_byte-a.result c.wide_byte-b.result c.wide_byte-a.ensures.0
    c.wide_byte-b.ensures.0 c.passed.result c.passed-in-loop-k.result c.passed.ensures c.passed-in-loop-k.ensures

small : (c : After-passed-in-loop-k) → c.passed.result + c.passed-in-loop-k.result ≤ full
small c =
    let p = c.requires.0 in
    let a = c.args in
    omega (arith, adds c p.0 p.1 p.2 p.3, carried_low p.3.whole p.3.start (bond_at a.bonds.now c.loop-k.k))

old : (c : After-passed-in-loop-k) → let l = c.loop-k in let a = c.args in
    (length l.out ≡ length a.out.now) × (get_or l.out l.k 0 ≡ get_or a.out.now l.k 0)
old c =
    let p = c.requires.0 in
    let l = c.loop-k in
    let f = l.invariant.1 p.0 p.1 p.2 p.3 in
    (f.same, f.kept l.k (le_refl l.k))

pub overflow_add-s : goal.overflow_add-s
overflow_add-s c = omega (arith, small (goal.at.overflow_add-s c).After-passed-in-loop-k)

pub bounds-out-k : goal.bounds-out-k
bounds-out-k c = omega (arith, old (goal.at.bounds-out-k c).After-passed-in-loop-k, c.requires.1.room)

pub overflow_add-out : goal.overflow_add-out
overflow_add-out c = omega (arith, small (goal.at.overflow_add-out c).After-passed-in-loop-k, old (goal.at.overflow_add-out c).After-passed-in-loop-k, c.requires.1.low c.loop-k.k c.loop-k-test.true)

pub bounds-out-k-in-loop-k : goal.bounds-out-k-in-loop-k
bounds-out-k-in-loop-k c = omega (arith, old (goal.at.bounds-out-k-in-loop-k c).After-passed-in-loop-k, c.requires.1.room)

pub loop-k-preserved : goal.loop-k-preserved
loop-k-preserved c =
    let l = c.loop-k in (
      omega arith,
      λ n i d R. filled_store (l.invariant.1 n i d R) (omega (arith, old (goal.at.loop-k-preserved c).After-passed-in-loop-k, c.requires.1.room))
          (get_or l.out l.k 0 + (c.passed.result + c.passed-in-loop-k.result))
          (omega (arith, old (goal.at.loop-k-preserved c).After-passed-in-loop-k, adds (goal.at.loop-k-preserved c).After-passed-in-loop-k n i d R)),
    )

pub shape_of-out : goal.shape_of-out
shape_of-out c =
    let p = c.requires.0 in
    (c.loop-k.invariant.1 p.0 p.1 p.2 p.3).same

pub returns : goal.returns
returns c n i d R =
    let e : c.loop-k.k ≡ length c.args.bonds.now / 2 = omega arith in
    rw e at (c.loop-k.invariant.1 n i d R)
