use mathlib.Core.Path.{ap}
use Rattle.std.specs.Prelude.{Err}
use Rattle.neighbours.proofs.scan.last.Goals as goal

-- `last` meets its contract. Assumes nothing.
pub returns-then-text-x : goal.returns-then-text-x
returns-then-text-x c = rw (c.number-x.ensures.past c.if-text-x.true)

pub returns : goal.returns
returns c = rw ((c.number-x.ensures.here c.if-text-x.false).same) (ap Err c.at.ensures)
