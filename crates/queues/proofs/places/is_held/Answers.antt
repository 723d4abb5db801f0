use borrow.Author.Tests.{eq-eqb, ne_eqb}
use Rattle.queues.proofs.places.is_held.Goals as goal

-- `is_held` meets its contract.
pub returns-then-number-ne0 : goal.returns-then-number-ne0
returns-then-number-ne0 c = simp (ne_eqb _ _ c.if-number-ne0.true)

pub returns-else-number-ne0 : goal.returns-else-number-ne0
returns-else-number-ne0 c = simp (eq-eqb _ _ c.if-number-ne0.false)
