use Prim.Native.Nat.{◌+◌}
use native.Mathlib.Omega.{arith}
use Rattle.records.specs.Records.{length_at}
use Rattle.records.proofs.Numbers.{past_end}
use Rattle.records.proofs.payload_at.Goals as goal

-- `records::payload_at` meets its contract. Assumes nothing.
pub returns-then-d-at : goal.returns-then-d-at
returns-then-d-at c = let a = c.args in past_end (a.at + 4) (length_at a.d.now a.at) (omega arith) (omega arith) c.part.ensures

pub returns : goal.returns
returns c = rw c.le16_at.ensures at c.part-2.ensures
