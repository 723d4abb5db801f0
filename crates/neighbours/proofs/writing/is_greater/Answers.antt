use borrow.Author.Tests.{lt-ltb, le-ltb}
use Rattle.graph.specs.Sets.{has}
use Rattle.neighbours.proofs.writing.is_greater.Goals as goal

-- `is_greater` meets its contract. Assumes nothing.
pub returns-then-i-j : goal.returns-then-i-j
unfolding has
returns-then-i-j c = let a = c.args in rw (lt-ltb a.i a.j c.if-i-j.true)

pub returns : goal.returns
returns c = let a = c.args in rw (le-ltb a.i a.j c.if-i-j.false)
