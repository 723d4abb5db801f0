use Prim.Native.Nat.{◌-◌}
use mathlib.Core.Path.{refl, sym, ◌∙◌}
use Rattle.sdfile.proofs.Tags.{tagged_past, tagged_here, tagged_later}
use native.Mathlib.Omega.{arith}
use Rattle.sdfile.proofs.has_some_tag.Goals as goal

pub loop-i-init : goal.loop-i-init
loop-i-init c = refl

pub returns-then-d-i-eq-OPENS : goal.returns-then-d-i-eq-OPENS
returns-then-d-i-eq-OPENS c =
    let l = c.loop-i in
    let a = c.args in
    c.stands.ensures ∙ sym (l.invariant ∙ tagged_here a.d.now l.i (omega arith) c.if-d-i-eq-OPENS.true)

pub loop-i-preserved : goal.loop-i-preserved
loop-i-preserved c =
    let l = c.loop-i in
    let a = c.args in
    l.invariant ∙ tagged_later a.d.now l.i (omega arith) c.if-d-i-eq-OPENS.false

pub returns : goal.returns
returns c =
    let l = c.loop-i in
    let a = c.args in
    sym (l.invariant ∙ tagged_past a.d.now l.i (omega arith))
