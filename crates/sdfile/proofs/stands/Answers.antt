use Prim.Native.Nat.{◌-◌}
use mathlib.Core.Path.{refl, sym, ◌∙◌}
use Rattle.sdfile.proofs.Tags.{stands_past, stands_here, stands_later}
use native.Mathlib.Omega.{arith}
use Rattle.sdfile.proofs.stands.Goals as goal

pub loop-i-init : goal.loop-i-init
loop-i-init c = refl

pub returns-then-d-i : goal.returns-then-d-i
returns-then-d-i c =
    let l = c.loop-i in
    let a = c.args in
    sym (l.invariant ∙ stands_here a.b a.d.now l.i (omega arith) c.if-d-i.true)

pub loop-i-preserved : goal.loop-i-preserved
loop-i-preserved c =
    let l = c.loop-i in
    let a = c.args in
    l.invariant ∙ stands_later a.b a.d.now l.i (omega arith) c.if-d-i.false

pub returns : goal.returns
returns c =
    let l = c.loop-i in
    let a = c.args in
    sym (l.invariant ∙ stands_past a.b a.d.now l.i (omega arith))
