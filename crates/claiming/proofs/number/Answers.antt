use Rattle.claiming.proofs.Steps.{number_fine, number_whole}
use Rattle.claiming.proofs.number.Goals as goal

-- `claiming::number` meets its contract. Assumes nothing.
pub returns-then-field-eq-FINE : goal.returns-then-field-eq-FINE
returns-then-field-eq-FINE c = number_fine _ _ c.if-field-eq-FINE.true c.fine.ensures

pub returns : goal.returns
returns c = number_whole _ _ c.if-field-eq-FINE.false c.whole.ensures
