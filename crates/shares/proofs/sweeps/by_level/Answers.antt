use Prim.Native.Nat.{suc, ◌<◌}
use mathlib.Core.Path.{◌≡◌, refl}
use native.Mathlib.Numerals.{add-one}
use native.Mathlib.Omega.{arith}
use Rattle.graph.specs.SetLaws.{shifted_one}
use Rattle.block.specs.Block.{most_atoms}
use Rattle.block.specs.Lent.{zeros}
use Rattle.shares.proofs.Layering.{layered_start, layered_next, layered_end}
use Rattle.shares.proofs.sweeps.by_level.Goals as goal
use Rattle.shares.proofs.sweeps.by_level.Goals.{After-wide_byte-d}

pub loop-j-init : goal.loop-j-init
loop-j-init c = (omega arith, layered_start _ _ refl (zeros (suc most_atoms)))

pub wide_byte-d-requires : goal.wide_byte-d-requires
wide_byte-d-requires c = tt

-- the distance at hand
near : (c : After-wide_byte-d) → c.wide_byte-d.result < most_atoms
near c = let l = c.loop-j in omega (arith, c.wide_byte-d.ensures, c.requires.1 l.j (omega arith))

pub offset_bounds-sets-d : goal.offset_bounds-sets-d
offset_bounds-sets-d c = omega (arith, near (goal.at.offset_bounds-sets-d c).After-wide_byte-d)

pub bounds-sets-d : goal.bounds-sets-d
bounds-sets-d c = omega (arith, near (goal.at.bounds-sets-d c).After-wide_byte-d)

pub overflow_shl-sets : goal.overflow_shl-sets
overflow_shl-sets c = omega arith

pub offset_bounds-sets-d-in-loop-j : goal.offset_bounds-sets-d-in-loop-j
offset_bounds-sets-d-in-loop-j c = omega (arith, near (goal.at.offset_bounds-sets-d-in-loop-j c).After-wide_byte-d)

pub bounds-sets-d-in-loop-j : goal.bounds-sets-d-in-loop-j
bounds-sets-d-in-loop-j c = omega (arith, near (goal.at.bounds-sets-d-in-loop-j c).After-wide_byte-d)

pub loop-j-preserved : goal.loop-j-preserved
loop-j-preserved c =
    let l = c.loop-j in
    (omega arith, rw (add-one l.j, shifted_one most_atoms l.j (overflow_shl-sets (goal.at.loop-j-preserved c).After-wide_byte-d)) (layered_next l.j _ _ l.invariant.1 c.wide_byte-d.result c.wide_byte-d.ensures.0 (near (goal.at.loop-j-preserved c).After-wide_byte-d)))

pub returns : goal.returns
returns c =
    let l = c.loop-j in
    let a = c.args in
    let e : l.j ≡ a.n = omega arith in
    layered_end _ _ _ c.requires.0 (rw e at l.invariant.1)
