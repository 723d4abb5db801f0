use Prim.Native.Nat.{◌-◌}
use mathlib.Core.Path.{refl, sym, ◌∙◌}
use Rattle.sdfile.specs.Sdf.{tagged}
use Rattle.sdfile.proofs.Tags.{holds_past, holds_here, holds_later}
use native.Mathlib.Omega.{arith}
use Rattle.sdfile.proofs.has_tag.Goals as goal

pub loop-i-init : goal.loop-i-init
loop-i-init c = refl

pub returns-then-is_tag : goal.returns-then-is_tag
returns-then-is_tag c =
    let l = c.loop-i in
    let a = c.args in
    sym (l.invariant ∙ holds_here (tagged a.name.now) a.d.now l.i (omega arith) (sym c.is_tag.ensures ∙ c.if-is_tag.true))

pub loop-i-preserved : goal.loop-i-preserved
loop-i-preserved c =
    let l = c.loop-i in
    let a = c.args in
    l.invariant ∙ holds_later (tagged a.name.now) a.d.now l.i (omega arith) (sym c.is_tag.ensures ∙ c.if-is_tag.false)

pub returns : goal.returns
returns c =
    let l = c.loop-i in
    let a = c.args in
    sym (l.invariant ∙ holds_past (tagged a.name.now) a.d.now l.i (omega arith))
