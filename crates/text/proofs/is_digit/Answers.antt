use borrow.Author.Tests.{lt-leb, le-leb}
use Rattle.text.proofs.is_digit.Goals as goal

-- `text::is_digit` meets its contract. Assumes nothing.
pub returns-then-b-lt48 : goal.returns-then-b-lt48
returns-then-b-lt48 c = rw (lt-leb 48 c.args.b c.if-b-lt48.true)

pub returns : goal.returns
returns c = rw (le-leb 48 c.args.b c.if-b-lt48.false)
