use Prim.Native.Nat.{◌*◌}
use native.Mathlib.Omega.{arith}
use Rattle.records.proofs.Numbers.{past_end}
use Rattle.summary.specs.Layout.{summary_bytes}
use Rattle.shelf.proofs.summary_at.Goals as goal

-- `shelf::summary_at` meets its contract. Assumes nothing.
pub returns-then-book-i : goal.returns-then-book-i
returns-then-book-i c = let a = c.args in past_end (summary_bytes * a.i) summary_bytes (omega arith) (omega arith) c.part.ensures
