use Prim.Native.Nat.{◌-◌}
use mathlib.Core.Path.{refl, sym, ◌∙◌}
use Rattle.sdfile.proofs.White.{white_past, white_not, white_more}
use native.Mathlib.Omega.{arith}
use Rattle.sdfile.proofs.all_white.Goals as goal

pub loop-i-init : goal.loop-i-init
loop-i-init c = refl

pub loop-i-preserved : goal.loop-i-preserved
loop-i-preserved c =
    let l = c.loop-i in
    let d = c.args.d.now in
    l.invariant ∙ white_more d l.i (omega arith) (sym c.is_white.ensures ∙ c.if-is_white.true)

pub returns-else-is_white : goal.returns-else-is_white
returns-else-is_white c =
    let l = c.loop-i in
    let d = c.args.d.now in
    sym (l.invariant ∙ white_not d l.i (omega arith) (sym c.is_white.ensures ∙ c.if-is_white.false))

pub returns : goal.returns
returns c =
    let l = c.loop-i in
    let d = c.args.d.now in
    sym (l.invariant ∙ white_past d l.i (omega arith))
