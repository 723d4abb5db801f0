use Prim.Native.Nat.{suc, ◌-◌, ◌≤◌, ◌<◌}
use mathlib.Core.Path.{◌≡◌, refl, sym}
use lib.ListN.{get_or}
use Rattle.molfile.specs.Work.{most, bond_by}
use Rattle.text.proofs.Putting.{none, both, as_word}
use Rattle.molfile.proofs.Keeping.{kept_none, kept_more}
use native.Mathlib.Omega.{arith}
use Rattle.molfile.proofs.dropping.keep.Goals as goal
use Rattle.molfile.proofs.dropping.keep.Goals.{After-wide_two, After-wide_two-in-loop-k}

-- the ends of bond k
one : (c : After-wide_two) → let l = c.loop-k in
    (get_or c.args.ones.now l.k 0 ≡ suc (c.wide_two.result - 1)) × (c.wide_two.result - 1 < most) × (1 ≤ c.wide_two.result)
one c = let l = c.loop-k in
    let w = c.requires.1.one l.k (omega arith) in
    (omega (arith, c.wide_two.ensures.0), omega (arith, c.wide_two.ensures.0), omega (arith, c.wide_two.ensures.0))

two : (c : After-wide_two-in-loop-k) → let l = c.loop-k in
    (get_or c.args.twos.now l.k 0 ≡ suc (c.wide_two-in-loop-k.result - 1)) × (c.wide_two-in-loop-k.result - 1 < most) × (1 ≤ c.wide_two-in-loop-k.result)
two c = let l = c.loop-k in
    let w = c.requires.1.two l.k (omega arith) in
    (omega (arith, c.wide_two-in-loop-k.ensures.0), omega (arith, c.wide_two-in-loop-k.ensures.0), omega (arith, c.wide_two-in-loop-k.ensures.0))

pub loop-k-init : goal.loop-k-init
loop-k-init c =
    (omega arith, as_word (sym (kept_none c.args.numbers.now (bond_by c.args.ones.now c.args.twos.now))) none)

pub loop-k-preserved : goal.loop-k-preserved
loop-k-preserved c =
    let g = c.args in
    let l = c.loop-k in
    let x = c.wide_two.result - 1 in
    let y = c.wide_two-in-loop-k.result - 1 in
    let a = get_or g.numbers.now x 0 in
    let b = get_or g.numbers.now y 0 in
    (omega arith, as_word (sym (kept_more g.numbers.now (bond_by g.ones.now g.twos.now) l.k x y a b (one (goal.at.loop-k-preserved c).After-wide_two).0 (two (goal.at.loop-k-preserved c).After-wide_two-in-loop-k).0 refl refl)) (both l.invariant.1 c.store-next.ensures))
