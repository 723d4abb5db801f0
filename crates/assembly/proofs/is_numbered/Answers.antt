use borrow.Author.Tests.{eq-eqb, ne_eqb}
use Rattle.assembly.proofs.is_numbered.Goals as goal

-- `assembly::is_numbered` meets its contract. Assumes nothing.
pub returns-then-number-eq0 : goal.returns-then-number-eq0
returns-then-number-eq0 c = simp (eq-eqb c.args.number 0 c.if-number-eq0.true)

pub returns : goal.returns
returns c = simp (ne_eqb c.args.number 0 c.if-number-eq0.false)
