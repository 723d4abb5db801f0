use Prim.Native.Nat.{◌-◌, ◌<◌, min}
use mathlib.Core.Path.{◌≡◌, ap}
use native.Mathlib.Omega.{arith}
use lib.Bits.{bit_or}
use lib.ListN.{length, get_or}
use lib.Pow.{pow_pos}
use Rattle.graph.specs.Graph.{Within}
use Rattle.graph.specs.SetLaws.{shifted_one, taken_some}
use Rattle.block.specs.Block.{most_atoms}
use Rattle.block.proofs.Meeting.{first, run_start, small, shallow, less, run_looked, looked_at, run_deeper, run_over, run_end}
use Rattle.block.proofs.search.from_atom.Goals as goal
use Rattle.block.proofs.search.from_atom.Goals.{After-slice_known-1, In-loop-level, Start}

-- the search starts from an atom of at most most_atoms
begins : (c : Start) → Within most_atoms c.args.n × Within c.args.n c.args.i
begins c =
    let (g, T) = c.requires.0 in
    let a = T.start in
    let e = T.size in
    (omega (arith, T.shown.small), omega arith)

pub overflow_sub-level : goal.overflow_sub-level
overflow_sub-level c = omega (arith, begins (goal.at.overflow_sub-level c).Start)

pub overflow_shl-level : goal.overflow_shl-level
overflow_shl-level c = omega (arith, begins (goal.at.overflow_shl-level c).Start)

pub loop-level-init : goal.loop-level-init
loop-level-init c g T =
    let e : min c.args.n most_atoms ≡ c.args.n = omega (arith, begins (goal.at.loop-level-init c).Start) in
    (rw (c.requires.1, shifted_one most_atoms _ (overflow_shl-level (goal.at.loop-level-init c).After-slice_known-1), c.first_atoms.ensures, e, T.size) (run_start g _ _ T.shown T.start), λ e. absurd (omega (arith, e, shifted_one most_atoms _ (overflow_shl-level (goal.at.loop-level-init c).After-slice_known-1), pow_pos (c.args.i - 1))))

-- in a turn some atom waits
small-in : (c : In-loop-level) → (first c.loop-level.level < most_atoms) × (c.loop-level.d < most_atoms)
small-in c =
    let (g, T) = c.requires.0 in
    let R = (c.loop-level.invariant g T).0 in
    (small g _ _ T.shown _ _ _ _ _ R c.loop-level-test.true, shallow g _ _ T.shown _ _ _ _ _ R c.loop-level-test.true)

pub overflow_cast-a : goal.overflow_cast-a
overflow_cast-a c = omega (arith, small-in (goal.at.overflow_cast-a c).In-loop-level)

pub overflow_sub-level-in-loop-level : goal.overflow_sub-level-in-loop-level
overflow_sub-level-in-loop-level c = omega (arith, c.loop-level-test.true)

pub bounds-row-a : goal.bounds-row-a
bounds-row-a c =
    let (g, T) = c.requires.0 in
    omega (arith, small-in (goal.at.bounds-row-a c).In-loop-level, (c.loop-level.invariant g T).0.size)

pub offset_bounds-near-a : goal.offset_bounds-near-a
offset_bounds-near-a c = omega (arith, small-in (goal.at.offset_bounds-near-a c).In-loop-level)

pub bounds-near-a : goal.bounds-near-a
bounds-near-a c =
    let (g, T) = c.requires.0 in
    omega (arith, small-in (goal.at.bounds-near-a c).In-loop-level, T.shown.size)

pub overflow_add-d : goal.overflow_add-d
overflow_add-d c = omega (arith, small-in (goal.at.overflow_add-d c).In-loop-level)

pub loop-level-smaller-then-level-eq0 : goal.loop-level-smaller-then-level-eq0
loop-level-smaller-then-level-eq0 c =
    let l = c.loop-level in
    omega (arith, taken_some l.rest (bit_or l.next (get_or c.args.near.now (first l.level) 0)), c.loop-level-test.true)

pub loop-level-preserved-then-level-eq0 : goal.loop-level-preserved-then-level-eq0
loop-level-preserved-then-level-eq0 c g T =
    let R = (c.loop-level.invariant g T).0 in
    let L = run_looked g _ _ T.shown _ _ _ _ _ R c.loop-level-test.true in
    let none = c.if-level-eq0.true in
    (run_deeper g _ _ T.shown _ _ _ _ _ L none, λ e. run_over g _ _ T.shown _ _ _ _ _ L none e _ (looked_at g _ _ T.shown _ _ _ _ _ R c.loop-level-test.true))

pub loop-level-smaller : goal.loop-level-smaller
loop-level-smaller c =
    let (g, T) = c.requires.0 in
    omega (arith, less g _ _ T.shown _ _ _ _ _ (c.loop-level.invariant g T).0 c.loop-level-test.true)

pub loop-level-preserved : goal.loop-level-preserved
loop-level-preserved c g T =
    (run_looked g _ _ T.shown _ _ _ _ _ (c.loop-level.invariant g T).0 c.loop-level-test.true, λ e. absurd (c.if-level-eq0.false e))

pub overflow_sub-result : goal.overflow_sub-result
overflow_sub-result c =
    let (g, T) = c.requires.0 in
    omega (arith, ((c.loop-level.invariant g T).1 c.loop-level-test.false).some)

pub shape_of-row : goal.shape_of-row
shape_of-row c =
    let (g, T) = c.requires.0 in
    omega (arith, (c.loop-level.invariant g T).0.size, ap length c.requires.1)

pub returns : goal.returns
returns c g T =
    let l = c.loop-level in
    let o = (l.invariant g T).1 c.loop-level-test.false in
    run_end g _ _ T.shown _ _ _ _ _ (l.invariant g T).0 c.loop-level-test.false o.ended o.deep
