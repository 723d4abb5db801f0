use Prim.Native.Nat.{◌-◌, min}
use mathlib.Core.Path.{◌≡◌}
use native.Mathlib.Omega.{arith}
use Rattle.arms.specs.Arms.{most_arms}
use Rattle.arms.proofs.Keeping.{six_start, sight_first, six_next, stem_end}
use Rattle.arms.proofs.stem_of.Goals as goal

pub loop-k-init : goal.loop-k-init
loop-k-init c = let a = c.args in (six_start a.core a.arms, sight_first a.core a.arms)

pub loop-k-preserved : goal.loop-k-preserved
loop-k-preserved c =
    let a = c.args in
    let l = c.loop-k in
    (six_next a.core a.arms l.k l.six _ l.from l.invariant.0 l.invariant.1 c.joined-six.ensures, c.sight-from.ensures)

pub returns : goal.returns
returns c =
    let a = c.args in
    let l = c.loop-k in
    let e : l.k ≡ min a.m (most_arms - 1) = omega (arith, c.within-n.ensures) in
    stem_end a.core a.arms l.k (min a.m (most_arms - 1)) _ _ e l.invariant.0 l.invariant.1
