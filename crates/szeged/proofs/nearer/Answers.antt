use mathlib.Core.Path.{◌≡◌, ◌∙◌}
use native.Mathlib.Omega.{arith}
use lib.Dec.{ltb}
use lib.ListN.{get_or}
use Rattle.block.proofs.Tallies.{bit_low}
use Rattle.szeged.proofs.Counting.{count_none, count_more}
use Rattle.szeged.proofs.nearer.Goals as goal

pub loop-x-init : goal.loop-x-init
loop-x-init c = (omega arith, count_none _ _)

pub overflow_add-count : goal.overflow_add-count
overflow_add-count c = let l = c.loop-x in omega (arith, l.invariant.1.most, bit_low (ltb (get_or c.args.one.now l.x 0) (get_or c.args.two.now l.x 0)))

pub loop-x-preserved : goal.loop-x-preserved
loop-x-preserved c = let l = c.loop-x in (omega arith, count_more _ _ l.x l.count l.invariant.1)

pub wide-requires : goal.wide-requires
wide-requires c = tt

pub returns : goal.returns
returns c =
    let e : c.loop-x.x ≡ c.args.n = omega arith in
    let r = rw e at c.loop-x.invariant.1 in
    record { is = c.wide.ensures.0 ∙ r.is; most = omega (arith, c.wide.ensures.0, r.most) }
