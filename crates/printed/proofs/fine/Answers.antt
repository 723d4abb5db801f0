use borrow.Author.Tests.{not-true, not-false}
use Rattle.printed.proofs.Reading.{fine_unsound, first-last, front_large, fine_large, fine_small}
use Rattle.printed.proofs.fine.Reads as reads
use Rattle.printed.proofs.fine.Lts as lts
use Rattle.printed.proofs.digits.Reads as digits-reads
use Rattle.printed.proofs.laid_out.Reads as laid-out-reads
use Rattle.printed.proofs.ninth.Reads as ninth-reads
use Rattle.printed.proofs.scaled.Reads as scaled-reads
use Rattle.printed.proofs.unit.Reads as unit-reads
use Rattle.printed.proofs.fine.Goals as goal

-- `printed::fine` meets its contract. Assumes nothing.
pub returns-then-not-s : goal.returns-then-not-s
returns-then-not-s c = fine_unsound _ _ c.laid_out-s.ensures (not-true _ c.if-not-s.true)

pub ninth-end-requires : goal.ninth-end-requires
ninth-end-requires c = first-last _ _ c.laid_out-s.ensures

pub returns-in_err-v : goal.returns-in_err-v
returns-in_err-v c = rw c.from_residual.ensures (front_large _ _ c.laid_out-s.ensures (not-false _ c.if-not-s.false) c.in_err-v.ensures)

pub returns-in_err-c : goal.returns-in_err-c
returns-in_err-c c =
    rw c.from_residual-in_err-c.ensures (fine_large _ _ c.laid_out-s.ensures (not-false _ c.if-not-s.false) _ _ c.in_ok-v.ensures c.ninth-end.ensures c.in_err-c.ensures)

pub returns : goal.returns
returns c =
    fine_small _ _ c.laid_out-s.ensures (not-false _ c.if-not-s.false) _ _ c.in_ok-v.ensures c.ninth-end.ensures _ _ c.in_ok-c.ensures c.unit.ensures.0 c.scaled.ensures
