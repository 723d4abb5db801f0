use mathlib.Core.Logic.{inl}
use native.Mathlib.Omega.{arith}
use Rattle.block.proofs.Sketching.{joined_ends}
use Rattle.block.proofs.bonding.reached_by.Goals as goal

pub returns-then-reached-ends-eq0 : goal.returns-then-reached-ends-eq0
returns-then-reached-ends-eq0 c = record { from = λ v h. inl h }

pub returns-else-reached-ends-eq0 : goal.returns-else-reached-ends-eq0
returns-else-reached-ends-eq0 c = joined_ends _ _ (omega arith) (omega arith) (omega (arith, c.if-reached-ends-eq0.false))
