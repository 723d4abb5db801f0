use native.Mathlib.Omega.{arith}
use Rattle.sets.proofs.Products.{of_bonds, of_atoms}
use Rattle.sets.proofs.combine.Goals as goal

-- `sets::combine` meets its contract: what it ensures fits by what it requires.
pub overflow_mul-result : goal.overflow_mul-result
overflow_mul-result c = let r = of_bonds c.if-kind.true c.requires in omega arith

pub overflow_mul-result-then-kind : goal.overflow_mul-result-then-kind
overflow_mul-result-then-kind c = let r = of_bonds c.if-kind.true c.requires in omega arith

pub overflow_add-result : goal.overflow_add-result
overflow_add-result c = let r = of_bonds c.if-kind.true c.requires in omega arith

pub overflow_mul-result-then-kind-2 : goal.overflow_mul-result-then-kind-2
overflow_mul-result-then-kind-2 c = let r = of_bonds c.if-kind.true c.requires in omega arith

pub overflow_mul-result-else-kind : goal.overflow_mul-result-else-kind
overflow_mul-result-else-kind c = let r = of_atoms c.if-kind.false c.requires in omega arith

pub overflow_mul-result-else-kind-2 : goal.overflow_mul-result-else-kind-2
overflow_mul-result-else-kind-2 c = let r = of_atoms c.if-kind.false c.requires in omega arith

pub overflow_add-result-else-kind : goal.overflow_add-result-else-kind
overflow_add-result-else-kind c = let r = of_atoms c.if-kind.false c.requires in omega arith

pub overflow_mul-result-else-kind-3 : goal.overflow_mul-result-else-kind-3
overflow_mul-result-else-kind-3 c = let r = of_atoms c.if-kind.false c.requires in omega arith

pub returns-then-kind : goal.returns-then-kind
returns-then-kind c = (of_bonds c.if-kind.true c.requires).is

pub returns-else-kind : goal.returns-else-kind
returns-else-kind c = (of_atoms c.if-kind.false c.requires).is
