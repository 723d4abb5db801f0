use Prim.Native.Nat.{◌-◌}
use mathlib.Core.Path.{sym, ◌∙◌}
use native.Mathlib.Omega.{arith}
use Rattle.adjacency.specs.Filling.{filling_start, filling_end, filling_high, filling_room, filling_next}
use Rattle.neighbours.proofs.bonds.fill.Goals as goal

pub loop-x-init : goal.loop-x-init
loop-x-init c = (filling_start _ _ _, c.requires.0)

pub shape_of-out-then-text-x : goal.shape_of-out-then-text-x
shape_of-out-then-text-x c = c.loop-x.invariant.0.same

pub returns-then-text-x : goal.returns-then-text-x
returns-then-text-x c = filling_end c.loop-x.invariant.0 (c.number-x.ensures.past c.if-text-x.true)

pub shape_of-out-then-is_high : goal.shape_of-out-then-is_high
shape_of-out-then-is_high c = c.loop-x.invariant.0.same

pub returns-then-is_high : goal.returns-then-is_high
returns-then-is_high c = filling_high c.loop-x.invariant.0 (c.number-x.ensures.here c.if-text-x.false).same (sym c.is_high.ensures ∙ c.if-is_high.true)

pub put-p-requires : goal.put-p-requires
put-p-requires c = λ t.
    let x = c.number-x.ensures.here c.if-text-x.false in
    let f = c.loop-x.invariant.0 in
    omega (arith, f.same, c.requires.1, filling_room f x.same (sym c.is_high.ensures ∙ c.if-is_high.false) t)

pub loop-x-smaller : goal.loop-x-smaller
loop-x-smaller c = let x = c.number-x.ensures.here c.if-text-x.false in omega arith

pub loop-x-preserved : goal.loop-x-preserved
loop-x-preserved c =
    let x = c.number-x.ensures.here c.if-text-x.false in
    let f = filling_next c.loop-x.invariant.0 x.same (sym c.is_high.ensures ∙ c.if-is_high.false) in
    (rw (c.label_after-label.ensures, c.put-p.ensures.index, c.put-p.ensures.bytes) f, x.within)
