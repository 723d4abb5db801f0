use native.Mathlib.Numerals.{add-one}
use native.Mathlib.Omega.{arith}
use lib.ListN.{length-set}
use Rattle.queues.proofs.places.free.Goals as goal

-- `free` meets its contract.
pub bounds-s-at-2 : goal.bounds-s-at-2
bounds-s-at-2 c = simp length-set (omega arith)

pub returns : goal.returns
returns c = let a = c.args in rw (add-one a.at)
