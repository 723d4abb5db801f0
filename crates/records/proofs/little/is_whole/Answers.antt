use Prim.Native.Nat.{◌-◌}
use mathlib.Core.Bool.{false≢true}
use native.Mathlib.Omega.{arith}
use borrow.Author.Tests.{leb-true}
use Rattle.records.proofs.little.is_whole.Goals as goal

-- `is_whole` meets its contract.
pub returns-then-width-w : goal.returns-then-width-w
returns-then-width-w c e = absurd (false≢true e)

pub returns-then-len-w : goal.returns-then-len-w
returns-then-len-w c e = absurd (false≢true e)

pub returns : goal.returns
returns c e = let a = c.args in (c.if-width-w.false, omega (arith, leb-true a.at (a.len - a.w) e, c.if-len-w.false))
