use Prim.Native.Nat.{◌-◌}
use mathlib.Core.Path.{refl, sym, ◌∙◌, ap}
use native.Mathlib.Omega.{arith}
use Rattle.printed.specs.Printed.{said_value}
use Rattle.printed.proofs.Reading.{one_more, one_large, none_left, none_due}
use Rattle.printed.proofs.digits.Reads as reads
use Rattle.printed.proofs.digits.Lts as lts
use Rattle.printed.proofs.more.Reads as more-reads
use Rattle.printed.proofs.digits.Goals as goal

pub loop-i-init : goal.loop-i-init
loop-i-init c = (refl, omega arith)

pub returns-then-text-i : goal.returns-then-text-i
returns-then-text-i c = let l = c.loop-i in none_left l.v _ l.i _ l.invariant.1 c.if-text-i.true ∙ ap said_value (sym l.invariant.0)

pub returns-in_err-v : goal.returns-in_err-v
returns-in_err-v c =
    let l = c.loop-i in
    rw c.from_residual.ensures (one_large l.v _ l.i _ c.if-text-i.false c.loop-i-test.true c.in_err-v.ensures ∙ ap said_value (sym l.invariant.0))

pub loop-i-preserved : goal.loop-i-preserved
loop-i-preserved c =
    let l = c.loop-i in
    let m = one_more l.v _ l.i _ _ c.if-text-i.false c.loop-i-test.true c.in_ok-v.ensures in
    (l.invariant.0 ∙ m.0, m.1)

pub returns : goal.returns
returns c = let l = c.loop-i in none_due l.v _ l.i _ l.invariant.1 c.loop-i-test.false ∙ ap said_value (sym l.invariant.0)
