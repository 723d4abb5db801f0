use Rattle.filling.proofs.Laws.{first_put}
use Rattle.filling.proofs.store.put_first.Goals as goal

-- `put_first` meets its contract.
pub returns : goal.returns
returns c = let a = c.args in first_put a.out.now a.number a.n a.largest c.put_little.ensures c.put_little-2.ensures c.put_little-3.ensures
