use borrow.Author.Tests.{eq-eqb, ne_eqb}
use Rattle.wholefile.proofs.both.Goals as goal

-- `wholefile::both` meets its contract.
pub returns-then-p-a : goal.returns-then-p-a
returns-then-p-a c = simp (eq-eqb _ _ c.if-p-a.true)

pub returns-else-p-a : goal.returns-else-p-a
returns-else-p-a c = simp (ne_eqb _ _ c.if-p-a.false)
