use mathlib.Core.Path.{sym, ◌∙◌}
use native.Mathlib.Omega.{arith}
use Rattle.block.specs.Faults.{inside}
use Rattle.climb.proofs.earlier.Goals as goal

-- `climb::earlier` meets its contract. Assumes nothing.
pub returns-then-is_outside : goal.returns-then-is_outside
returns-then-is_outside c = rw (sym c.is_outside.ensures ∙ c.if-is_outside.true)

pub overflow_sub-result : goal.overflow_sub-result
overflow_sub-result c = let w = inside c.args.k c.args.parent (sym c.is_outside.ensures ∙ c.if-is_outside.false) in omega (arith, w)

pub returns : goal.returns
returns c = rw (sym c.is_outside.ensures ∙ c.if-is_outside.false)
