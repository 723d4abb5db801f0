use native.Mathlib.Omega.{arith}
use Rattle.stock.proofs.Making.{none_among, one_among}
use Rattle.stock.proofs.arm_among.Goals as goal

-- `stock::arm_among` meets its contract. Assumes nothing.
pub returns-then-j-ge-CANDIDATES : goal.returns-then-j-ge-CANDIDATES
returns-then-j-ge-CANDIDATES c = let a = c.args in none_among a.all.now a.k a.j (omega (arith, c.if-j-ge-CANDIDATES.true))

pub returns : goal.returns
returns c = let a = c.args in one_among a.all.now a.k a.j (omega (arith, c.if-j-ge-CANDIDATES.false)) _ c.row_arm.ensures
