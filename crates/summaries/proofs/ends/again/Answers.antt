use native.Mathlib.Omega.{arith}
use Rattle.summaries.proofs.Storing.{nowhere_more}
use Rattle.summaries.proofs.ends.again.Goals as goal

pub loop-g-init : goal.loop-g-init
loop-g-init c = (omega arith, λ z. record { other = λ g l h q. absurd (omega arith) })

pub loop-g-preserved : goal.loop-g-preserved
loop-g-preserved c =
    let i = c.loop-g.invariant in
    let s = c.one_if_same-total.ensures in
    (omega (arith, i.0, s.0), λ z. nowhere_more c.loop-g.g (s.1 (omega arith)) (i.1 (omega arith)))

pub returns : goal.returns
returns c z = record { other = λ g l h. (c.loop-g.invariant.1 z).other g l (omega (arith, h, c.loop-g-test.false)) }
