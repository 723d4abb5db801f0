use mathlib.Core.Path.{◌≡◌, refl, ap, ◌∙◌}
use native.Mathlib.Omega.{arith}
use Rattle.matrix.specs.Matrix.{matrix_indices}
use Rattle.matrix.proofs.Lines.{up_none, up_more, up_end}
use Rattle.matrix.proofs.sums.Goals as goal

pub within-m-requires : goal.within-m-requires
within-m-requires c = tt

pub loop-i-init : goal.loop-i-init
loop-i-init c = (omega arith, omega arith, up_none _)

pub overflow_add-w : goal.overflow_add-w
overflow_add-w c = let B = c.along-line.ensures.low in let S = c.loop-i.invariant.2.low in omega arith

pub overflow_add-odd : goal.overflow_add-odd
overflow_add-odd c = let B = c.along-line.ensures.low in let S = c.loop-i.invariant.2.low in omega arith

pub overflow_add-threes : goal.overflow_add-threes
overflow_add-threes c = let B = c.along-line.ensures.low in let S = c.loop-i.invariant.2.low in omega arith

pub larger-largest-requires : goal.larger-largest-requires
larger-largest-requires c = tt

pub loop-i-preserved : goal.loop-i-preserved
loop-i-preserved c =
    let l = c.loop-i in
    let v = l.invariant in
    (omega arith, v.1, up_more _ l.i (omega arith) _ refl _ _ _ _ _ _ _ _ v.2 c.along-line.ensures _ c.larger-largest.ensures)

pub overflow_sub-result : goal.overflow_sub-result
overflow_sub-result c = c.loop-i.invariant.2.low.1

pub returns : goal.returns
returns c =
    let l = c.loop-i in
    let w = c.within-m in
    let e : l.i ≡ w.result = omega arith in
    up_end _ _ _ _ _ _ (rw e at l.invariant.2) ∙ ap (matrix_indices c.args.rows) w.ensures.0
