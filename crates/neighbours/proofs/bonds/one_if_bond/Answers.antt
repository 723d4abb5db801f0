use mathlib.Core.Path.{sym, ◌∙◌}
use Rattle.neighbours.proofs.bonds.one_if_bond.Goals as goal

-- `one_if_bond` meets its contract. Assumes nothing.
pub returns-then-is_bond : goal.returns-then-is_bond
returns-then-is_bond c = rw (sym c.is_bond.ensures ∙ c.if-is_bond.true)

pub returns-else-is_bond : goal.returns-else-is_bond
returns-else-is_bond c = rw (sym c.is_bond.ensures ∙ c.if-is_bond.false)
