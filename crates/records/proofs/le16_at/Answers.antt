use mathlib.Core.Path.{sym}
use native.Mathlib.Omega.{arith}
use Rattle.records.specs.Bytes.{little}
use Rattle.records.proofs.Numbers.{past}
use Rattle.records.proofs.le16_at.Goals as goal

-- `records::le16_at` meets its contract. Assumes nothing.
pub returns-then-at-d : goal.returns-then-at-d
unfolding little
returns-then-at-d c = omega arith

pub returns : goal.returns
returns c = let a = c.args in sym (past 2 a.d.now a.at c.if-at-d.false)
