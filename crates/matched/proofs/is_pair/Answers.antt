use native.Mathlib.Omega.{arith}
use borrow.Author.Tests.{eq-eqb, ne_eqb}
use Rattle.matched.proofs.is_pair.Goals as goal

-- `matched::is_pair` meets its contract. Assumes nothing.
pub returns-then-one-x : goal.returns-then-one-x
returns-then-one-x c = let a = c.args in rw (ne_eqb a.one a.x (λ e. omega (arith, c.if-one-x.true, e)))

pub returns : goal.returns
returns c = let a = c.args in rw (eq-eqb a.one a.x (omega (arith, c.if-one-x.false)))
