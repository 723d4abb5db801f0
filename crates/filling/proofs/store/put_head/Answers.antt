use Rattle.filling.proofs.Laws.{head_put}
use Rattle.filling.proofs.store.put_head.Goals as goal

-- `put_head` meets its contract.
pub returns : goal.returns
returns c = let a = c.args in head_put a.out.now a.number a.s c.put_first.ensures c.put_totals.ensures
