use borrow.Author.Tests.{eq-eqb, ne_eqb}
use Rattle.neighbours.proofs.bonds.is_high.Goals as goal

-- `is_high` meets its contract. Assumes nothing.
pub returns-then-label-eq0 : goal.returns-then-label-eq0
returns-then-label-eq0 c = rw (eq-eqb c.args.label 0 c.if-label-eq0.true)

pub returns-else-label-eq0 : goal.returns-else-label-eq0
returns-else-label-eq0 c = rw (ne_eqb c.args.label 0 c.if-label-eq0.false)
