use native.Mathlib.Omega.{arith}
use Rattle.summaries.proofs.Storing.{unmarked}
use Rattle.summaries.proofs.placed.Goals as goal

-- `summaries::placed` meets its contract. Assumes nothing.
pub by_rows-requires : goal.by_rows-requires
by_rows-requires c = let h = c.if-count-le-FEW.true in (c.requires, omega (arith, h), omega (arith, h), unmarked 4, omega (arith, h))

pub returns-then-count-le-FEW : goal.returns-then-count-le-FEW
returns-then-count-le-FEW c = c.by_rows.ensures

pub by_rows-requires-then-count-le-MORE : goal.by_rows-requires-then-count-le-MORE
by_rows-requires-then-count-le-MORE c = let h = c.if-count-le-MORE.true in (c.requires, omega (arith, h), omega (arith, h), unmarked 20, omega (arith, h))

pub returns-then-count-le-MORE : goal.returns-then-count-le-MORE
returns-then-count-le-MORE c = c.by_rows-then-count-le-MORE.ensures

pub by_rows-requires-2 : goal.by_rows-requires-2
by_rows-requires-2 c = let p = c.requires in (p, omega (arith, p.few), omega (arith, p.few), unmarked 64, omega (arith, p.few))

pub returns : goal.returns
returns c = c.by_rows-2.ensures
