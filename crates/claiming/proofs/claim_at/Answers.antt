use mathlib.Core.Path.{sym, ◌∙◌, ap}
use Rattle.std.specs.Prelude.{Err}
use Rattle.claiming.proofs.Steps.{at_outside, at_short, at_said}
use Rattle.claiming.proofs.claim_at.Goals as goal

-- `claiming::claim_at` meets its contract. Assumes nothing.
pub returns-then-is_outside : goal.returns-then-is_outside
returns-then-is_outside c =
    at_outside _ _ _ _ _ (c.wide-field.ensures.0 ∙ c.byte_at.ensures) (sym c.is_outside.ensures ∙ c.if-is_outside.true) (ap Err c.at.ensures)

pub returns-then-claims-at : goal.returns-then-claims-at
returns-then-claims-at c =
    at_short _ _ _ _ _ (c.wide-field.ensures.0 ∙ c.byte_at.ensures) (sym c.is_outside.ensures ∙ c.if-is_outside.false) _ c.size_at-size.ensures.0 c.requires c.if-claims-at.true (ap Err c.at-then-claims-at.ensures)

pub returns : goal.returns
returns c =
    at_said _ _ _ _ _ (c.wide-field.ensures.0 ∙ c.byte_at.ensures) (sym c.is_outside.ensures ∙ c.if-is_outside.false) _ c.size_at-size.ensures.0 c.requires c.if-claims-at.false c.part.ensures.bytes c.said.ensures
