use borrow.Author.Tests.{not-true, not-false}
use Rattle.printed.proofs.Reading.{whole_unsound, whole_large, whole_small}
use Rattle.printed.proofs.whole.Reads as reads
use Rattle.printed.proofs.whole.Lts as lts
use Rattle.printed.proofs.digits.Reads as digits-reads
use Rattle.printed.proofs.laid_out.Reads as laid-out-reads
use Rattle.printed.proofs.whole.Goals as goal

-- `printed::whole` meets its contract. Assumes nothing.
pub returns-then-not-s : goal.returns-then-not-s
returns-then-not-s c = whole_unsound _ _ c.laid_out-s.ensures (not-true _ c.if-not-s.true)

pub returns-in_err-value : goal.returns-in_err-value
returns-in_err-value c = rw c.from_residual.ensures (whole_large _ _ c.laid_out-s.ensures (not-false _ c.if-not-s.false) c.in_err-value.ensures)

pub returns : goal.returns
returns c = whole_small _ _ c.laid_out-s.ensures _ (not-false _ c.if-not-s.false) c.in_ok-value.ensures
