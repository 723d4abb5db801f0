use Rattle.filling.proofs.Laws.{totals_put}
use Rattle.filling.proofs.store.put_totals.Goals as goal

-- `put_totals` meets its contract.
pub returns : goal.returns
returns c = let a = c.args in totals_put a.out.now a.even a.odd a.polarity c.put_little.ensures c.put_little-2.ensures c.put_little-3.ensures
