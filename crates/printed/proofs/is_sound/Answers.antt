use borrow.Author.Tests.{lt-ltb, le-ltb}
use Rattle.printed.proofs.is_sound.Goals as goal

-- `printed::is_sound` meets its contract. Assumes nothing.
pub returns-then-from-to : goal.returns-then-from-to
returns-then-from-to c = let a = c.args in rw (lt-ltb a.from a.to c.if-from-to.true)

pub returns-else-from-to : goal.returns-else-from-to
returns-else-from-to c = let a = c.args in rw (le-ltb a.from a.to c.if-from-to.false)
