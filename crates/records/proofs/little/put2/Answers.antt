use Rattle.records.proofs.Putting.{two}
use Rattle.records.proofs.little.put2.Goals as goal

-- `records::little::put2` meets its contract. Assumes nothing.
pub returns : goal.returns
returns c = let a = c.args in two a.out.now a.at a.x c.put1.ensures c.put1-2.ensures
