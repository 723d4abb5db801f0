use native.Mathlib.Omega.{arith}
use borrow.Author.Tests.{eqb-true}
use Rattle.summaries.proofs.ends.none_from.Goals as goal

-- `summaries::ends::none_from` meets its contract. Assumes nothing.
pub returns-then-again-eq0 : goal.returns-then-again-eq0
returns-then-again-eq0 c =
    let s = c.again.ensures (eqb-true c.again.result 0 c.if-again-eq0.true-raw) in
    (omega arith, omega arith, record { other = λ g l h. s.other g (omega arith) h })

pub returns : goal.returns
returns c = (omega arith, omega arith, record { other = λ g l h q. absurd (omega arith) })
