use mathlib.Core.Path.{sym, ◌∙◌}
use native.Mathlib.Omega.{arith}
use lib.ListN.{length-set}
use Rattle.neighbours.proofs.bonds.put.Goals as goal

-- `put` meets its contract. Assumes nothing.
pub bounds-out-p : goal.bounds-out-p
bounds-out-p c = let r = c.requires (sym c.is_bond.ensures ∙ c.if-is_bond.true) in omega arith

pub overflow_add-out : goal.overflow_add-out
overflow_add-out c = let r = c.requires (sym c.is_bond.ensures ∙ c.if-is_bond.true) in record { fits = omega arith }

pub bounds-out-p-then-is_bond : goal.bounds-out-p-then-is_bond
bounds-out-p-then-is_bond c = let r = c.requires (sym c.is_bond.ensures ∙ c.if-is_bond.true) in simp length-set (omega arith)

pub overflow_add-result : goal.overflow_add-result
overflow_add-result c = let r = c.requires (sym c.is_bond.ensures ∙ c.if-is_bond.true) in record { fits = omega arith }

pub returns-then-is_bond : goal.returns-then-is_bond
returns-then-is_bond c = let t = sym c.is_bond.ensures ∙ c.if-is_bond.true in record { index = rw t; bytes = rw (t, c.end.ensures, c.end-then-is_bond.ensures) }

pub returns : goal.returns
returns c = let t = sym c.is_bond.ensures ∙ c.if-is_bond.false in record { index = rw t; bytes = rw t }
