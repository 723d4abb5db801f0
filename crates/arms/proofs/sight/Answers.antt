use mathlib.Core.Path.{◌≡◌, ◌∙◌, ap}
use native.Mathlib.Omega.{arith}
use lib.ListN.{get_or}
use Rattle.arms.specs.Arms.{no_port, sight_from}
use Rattle.arms.proofs.Keeping.{sight_start, sight_next}
use Rattle.arms.proofs.sight.Goals as goal

pub loop-m-init : goal.loop-m-init
loop-m-init c = sight_start _ _ _ _

pub loop-m-preserved : goal.loop-m-preserved
loop-m-preserved c =
    let l = c.loop-m in
    sight_next _ _ _ _ l.m l.v _ _ l.invariant c.wide-d.ensures.0 c.grown-v.ensures

pub returns : goal.returns
returns c =
    let a = c.args in
    let l = c.loop-m in
    let e : l.m ≡ a.k = omega arith in
    l.invariant ∙ ap (sight_from a.ends a.arms a.k (get_or a.ends a.k no_port).counts) e
