use borrow.Author.Tests.{eq-eqb, ne_eqb}
use Rattle.assembly.specs.Placements.{parent_fault}
use Rattle.assembly.proofs.parent_fault.Goals as goal

-- `assembly::parent_fault` meets its contract. Assumes nothing.
pub returns-then-parent-eq0 : goal.returns-then-parent-eq0
unfolding parent_fault
returns-then-parent-eq0 c = rw (eq-eqb c.args.parent 0 c.if-parent-eq0.true)

pub returns : goal.returns
unfolding parent_fault
returns c = rw (ne_eqb c.args.parent 0 c.if-parent-eq0.false)
