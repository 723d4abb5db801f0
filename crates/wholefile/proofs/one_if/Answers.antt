use native.Mathlib.Omega.{arith}
use borrow.Author.Tests.{eq-eqb, ne_eqb}
use Rattle.wholefile.proofs.one_if.Goals as goal

-- `wholefile::one_if` meets its contract.
pub returns-then-p-v : goal.returns-then-p-v
returns-then-p-v c = simp (eq-eqb _ _ c.if-p-v.true) (omega arith)

pub returns-else-p-v : goal.returns-else-p-v
returns-else-p-v c = simp (ne_eqb _ _ c.if-p-v.false) (omega arith)
