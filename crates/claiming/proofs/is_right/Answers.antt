use Rattle.claiming.proofs.Steps.{right_fine, right_whole}
use Rattle.claiming.proofs.is_right.Goals as goal

-- `claiming::is_right` meets its contract. Assumes nothing.
pub returns-then-f-eq-FINE : goal.returns-then-f-eq-FINE
returns-then-f-eq-FINE c = right_fine _ _ _ _ _ _ c.field-low.ensures c.if-f-eq-FINE.true c.is_near.ensures

pub returns : goal.returns
returns c = right_whole _ _ _ _ _ _ c.field-low.ensures c.if-f-eq-FINE.false
