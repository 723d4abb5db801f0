use Prim.Native.Nat.{◌-◌}
use mathlib.Core.Path.{refl, sym, ◌∙◌}
use native.Mathlib.Omega.{arith}
use Rattle.sheets.proofs.Puts.{wrong_here, wrong_later, wrong_nowhere}
use Rattle.sheets.proofs.first_apart.Goals as goal

pub loop-i-init : goal.loop-i-init
loop-i-init c = (c.requires, refl)

pub offset_bounds-ys-i : goal.offset_bounds-ys-i
offset_bounds-ys-i c = let l = c.loop-i in omega (arith, l.invariant.0, c.loop-i-test.true)

pub bounds-ys-i : goal.bounds-ys-i
bounds-ys-i c = let l = c.loop-i in omega (arith, l.invariant.0, c.loop-i-test.true)

pub returns-then-xs-i : goal.returns-then-xs-i
returns-then-xs-i c = let l = c.loop-i in sym (l.invariant.1 ∙ wrong_here _ _ l.i c.loop-i-test.true l.invariant.0 c.if-xs-i.true)

pub loop-i-preserved : goal.loop-i-preserved
loop-i-preserved c = let l = c.loop-i in (l.invariant.0, l.invariant.1 ∙ wrong_later _ _ l.i c.loop-i-test.true l.invariant.0 c.if-xs-i.false)

pub returns : goal.returns
returns c = let l = c.loop-i in sym (l.invariant.1 ∙ wrong_nowhere _ _ l.i c.loop-i-test.false l.invariant.0)
