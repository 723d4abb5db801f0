use Rattle.arms.proofs.Keeping.{port_kept}
use Rattle.arms.proofs.port_in.Goals as goal

-- `arms::port_in` meets its contract. Assumes nothing.
pub returns : goal.returns
returns c = let a = c.args in port_kept a.s.now a.atoms a.a _ _ c.seen-all.ensures c.near_in-near.ensures
