use mathlib.Core.Path.{◌∙◌}
use native.Mathlib.Omega.{arith}
use borrow.Author.Tests.{eq-eqb}
use Rattle.matched.specs.Laws.{lost_none, lost_later}
use Rattle.matched.proofs.is_lost.Goals as goal

-- `matched::is_lost` meets its contract. Assumes nothing.
pub returns-then-x-eq0 : goal.returns-then-x-eq0
returns-then-x-eq0 c = let a = c.args in eq-eqb c.partner-x.result 0 (omega (arith, c.if-x-eq0.true)) ∙ lost_none a.to.now a.v (omega (arith, c.partner-x.ensures, c.if-x-eq0.true))

pub returns-else-x-eq0 : goal.returns-else-x-eq0
returns-else-x-eq0 c =
    let a = c.args in
    lost_later a.to.now a.v c.partner-x.result c.is_taken.result c.partner-x.ensures (λ e. omega (arith, c.if-x-eq0.false, e)) c.is_taken.ensures
