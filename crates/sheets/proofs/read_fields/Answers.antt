use Prim.Native.Nat.{◌-◌}
use native.Mathlib.Omega.{arith}
use Rattle.sheets.proofs.Puts.{read_none, read_room, read_one, read_all}
use Rattle.sheets.proofs.read_fields.Goals as goal

pub loop-i-init : goal.loop-i-init
loop-i-init c = let p = c.requires in (p.0, p.2, read_none p.1)

pub offset_bounds-fields-i : goal.offset_bounds-fields-i
offset_bounds-fields-i c = let l = c.loop-i in omega (arith, l.invariant.0, l.invariant.2.same, c.loop-i-test.true)

pub bounds-fields-i : goal.bounds-fields-i
bounds-fields-i c = let l = c.loop-i in omega (arith, l.invariant.0, l.invariant.2.same, c.loop-i-test.true)

pub overflow_add-at : goal.overflow_add-at
overflow_add-at c = let l = c.loop-i in omega (arith, l.invariant.1, read_room c.loop-i-test.true l.invariant.2)

pub loop-i-preserved : goal.loop-i-preserved
loop-i-preserved c = let l = c.loop-i in (l.invariant.0, l.invariant.1, read_one c.little_at.result c.loop-i-test.true c.little_at.ensures l.invariant.2)

pub returns : goal.returns
returns c = let l = c.loop-i in read_all (omega (arith, c.loop-i-test.false)) l.invariant.0 l.invariant.2
