use Prim.Native.Nat.{◌+◌}
use native.Mathlib.Omega.{arith}
use borrow.Author.Tests.{eq-eqb, ne_eqb}
use Rattle.records.specs.Bytes.{le16}
use Rattle.assembly.proofs.is_on.Goals as goal

-- `assembly::is_on` meets its contract. Assumes nothing.
pub returns-then-two_at-p : goal.returns-then-two_at-p
returns-then-two_at-p c = let a = c.args in rw (ne_eqb (le16 a.xs.now (a.at + 2)) a.p (omega (arith, c.if-two_at-p.true, c.two_at.ensures)))

pub returns : goal.returns
returns c = let a = c.args in rw (eq-eqb (le16 a.xs.now (a.at + 2)) a.p (omega (arith, c.if-two_at-p.false, c.two_at.ensures)))
