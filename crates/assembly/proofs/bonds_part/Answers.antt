use Prim.Native.Nat.{◌+◌, ◌*◌}
use native.Mathlib.Omega.{arith}
use Rattle.records.proofs.Numbers.{past_end}
use Rattle.assembly.proofs.bonds_part.Goals as goal

-- `assembly::bonds_part` meets its contract. Assumes nothing.
pub returns-then-d-start : goal.returns-then-d-start
returns-then-d-start c = let a = c.args in past_end (a.b.start + 6) (2 * a.b.bonds) (omega arith) (omega arith) c.part.ensures
