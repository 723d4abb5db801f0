use mathlib.Core.Path.{refl}
use Rattle.records.proofs.little.put1.Goals as goal

-- `records::little::put1` meets its contract. Assumes nothing.
pub returns : goal.returns
returns c = rw c.low.ensures refl
