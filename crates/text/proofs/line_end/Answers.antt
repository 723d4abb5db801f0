use Prim.Native.Nat.{◌-◌}
use mathlib.Core.Path.{sym, ◌∙◌}
use Rattle.text.proofs.Lines.{end_past, end_here, end_later}
use native.Mathlib.Omega.{arith}
use Rattle.text.proofs.line_end.Goals as goal

pub loop-i-init : goal.loop-i-init
loop-i-init c = c.skip-i.ensures

pub returns-then-d-i-eq-FEED : goal.returns-then-d-i-eq-FEED
returns-then-d-i-eq-FEED c =
    let l = c.loop-i in
    let d = c.args.d.now in
    sym (l.invariant ∙ end_here d l.i (omega arith) c.if-d-i-eq-FEED.true)

pub loop-i-preserved : goal.loop-i-preserved
loop-i-preserved c =
    let l = c.loop-i in
    let d = c.args.d.now in
    l.invariant ∙ end_later d l.i (omega arith) c.if-d-i-eq-FEED.false

pub returns : goal.returns
returns c =
    let l = c.loop-i in
    let d = c.args.d.now in
    sym (l.invariant ∙ end_past d l.i (omega arith))
