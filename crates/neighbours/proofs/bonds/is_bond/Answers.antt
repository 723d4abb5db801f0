use borrow.Author.Tests.{eq-eqb, ne_eqb}
use Rattle.neighbours.proofs.bonds.is_bond.Goals as goal

-- `is_bond` meets its contract. Assumes nothing.
pub returns-then-label-ne0 : goal.returns-then-label-ne0
returns-then-label-ne0 c = rw (ne_eqb c.args.label 0 c.if-label-ne0.true)

pub returns-else-label-ne0 : goal.returns-else-label-ne0
returns-else-label-ne0 c = rw (eq-eqb c.args.label 0 c.if-label-ne0.false)
