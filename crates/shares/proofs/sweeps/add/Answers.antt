use native.Mathlib.Omega.{arith}
use Rattle.shares.proofs.sweeps.add.Goals as goal

-- `add` meets its contract.
pub overflow_add-sum : goal.overflow_add-sum
overflow_add-sum c = omega (arith, c.requires)

pub returns-then-sum-cap : goal.returns-then-sum-cap
returns-then-sum-cap c = omega (arith, c.if-sum-cap.true)

pub returns-else-sum-cap : goal.returns-else-sum-cap
returns-else-sum-cap c = omega (arith, c.if-sum-cap.false)
