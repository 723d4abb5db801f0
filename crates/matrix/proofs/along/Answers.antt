use mathlib.Core.Path.{◌≡◌}
use native.Mathlib.Omega.{arith}
use lib.Dec.{eqb}
use Rattle.block.proofs.Tallies.{bit_low, odd_low}
use Rattle.matrix.proofs.Lines.{line_none, line_more}
use Rattle.matrix.proofs.along.Goals as goal

pub loop-j-init : goal.loop-j-init
loop-j-init c = (omega arith, line_none _)

pub wide-d-requires : goal.wide-d-requires
wide-d-requires c = tt

pub overflow_add-all : goal.overflow_add-all
overflow_add-all c = let B = c.loop-j.invariant.1.low in omega arith

pub overflow_mul-odd : goal.overflow_mul-odd
overflow_mul-odd c = omega (arith, odd_low c.wide-d.result)

pub overflow_add-odd : goal.overflow_add-odd
overflow_add-odd c = let B = c.loop-j.invariant.1.low in omega (arith, odd_low c.wide-d.result)

pub overflow_add-threes : goal.overflow_add-threes
overflow_add-threes c = let B = c.loop-j.invariant.1.low in omega (arith, bit_low (eqb c.wide-d.result 3))

pub larger-largest-requires : goal.larger-largest-requires
larger-largest-requires c = tt

pub loop-j-preserved : goal.loop-j-preserved
loop-j-preserved c =
    let l = c.loop-j in
    let w = c.wide-d in
    (omega arith, line_more _ l.j _ _ _ _ l.invariant.1 _ w.ensures.0 w.ensures.1 _ c.larger-largest.ensures)

pub returns : goal.returns
returns c = let e : c.loop-j.j ≡ c.args.k = omega arith in (rw e at c.loop-j.invariant.1)
