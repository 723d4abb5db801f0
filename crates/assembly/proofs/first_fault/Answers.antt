use mathlib.Core.Path.{sym}
use Rattle.assembly.proofs.Faults.{first_parent, first_site, first_own, first_fine}
use Rattle.assembly.proofs.first_fault.Goals as goal

-- `assembly::first_fault` meets its contract. Assumes nothing.
pub returns-then-q-ne0 : goal.returns-then-q-ne0
returns-then-q-ne0 c = sym (first_parent c.args.q c.if-q-ne0.true)

pub returns-then-q-ne0-2 : goal.returns-then-q-ne0-2
returns-then-q-ne0-2 c = sym (first_site c.args.q c.if-q-ne0.false c.if-q-ne0-2.true)

pub returns-then-q-ne0-3 : goal.returns-then-q-ne0-3
returns-then-q-ne0-3 c = sym (first_own c.args.q c.if-q-ne0.false c.if-q-ne0-2.false c.if-q-ne0-3.true)

pub returns : goal.returns
returns c = sym (first_fine c.args.q c.if-q-ne0.false c.if-q-ne0-2.false c.if-q-ne0-3.false)
