use Rattle.records.proofs.Putting.{eight}
use Rattle.records.proofs.little.put8.Goals as goal

-- `records::little::put8` meets its contract. Assumes nothing.
pub returns : goal.returns
returns c = let a = c.args in eight a.out.now a.at a.x c.put4.ensures c.put4-2.ensures
