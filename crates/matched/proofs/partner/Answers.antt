use mathlib.Core.Path.{sym, ◌∙◌}
use native.Mathlib.Omega.{arith}
use lib.ListN.{length}
use Rattle.block.specs.Faults.{inside}
use Rattle.matched.specs.Laws.{partner_none, partner_some}
use Rattle.matched.proofs.partner.Goals as goal

-- `matched::partner` meets its contract. Assumes nothing.
pub returns-then-is_outside : goal.returns-then-is_outside
returns-then-is_outside c = let a = c.args in partner_none a.to.now a.v (sym c.is_outside.ensures ∙ c.if-is_outside.true)

pub overflow_sub-v : goal.overflow_sub-v
overflow_sub-v c = let a = c.args in omega (arith, inside (length a.to.now) a.v (sym c.is_outside.ensures ∙ c.if-is_outside.false))

pub offset_bounds-to-v : goal.offset_bounds-to-v
offset_bounds-to-v c = let a = c.args in omega (arith, inside (length a.to.now) a.v (sym c.is_outside.ensures ∙ c.if-is_outside.false))

pub bounds-to-v : goal.bounds-to-v
bounds-to-v c = let a = c.args in omega (arith, inside (length a.to.now) a.v (sym c.is_outside.ensures ∙ c.if-is_outside.false))

pub returns : goal.returns
returns c =
    let a = c.args in
    let w = inside (length a.to.now) a.v (sym c.is_outside.ensures ∙ c.if-is_outside.false) in
    partner_some a.to.now a.v c.wide_two.result w.low c.wide_two.ensures.0
