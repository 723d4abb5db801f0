use Rattle.records.proofs.Putting.{four}
use Rattle.records.proofs.little.put4.Goals as goal

-- `records::little::put4` meets its contract. Assumes nothing.
pub returns : goal.returns
returns c = let a = c.args in four a.out.now a.at a.x c.put2.ensures c.put2-2.ensures
