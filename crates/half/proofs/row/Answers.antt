use mathlib.Core.Path.{sym, ◌∙◌}
use Rattle.half.proofs.Lines.{atom, row_none, upto_end}
use Rattle.half.proofs.row.Goals as goal

pub returns-then-is_outside : goal.returns-then-is_outside
returns-then-is_outside c = row_none _ _ (sym c.is_outside.ensures ∙ c.if-is_outside.true)

pub column-first-requires : goal.column-first-requires
column-first-requires c = atom _ (sym c.is_outside.ensures ∙ c.if-is_outside.false)

pub along-requires : goal.along-requires
along-requires c = let (l, h) = atom _ (sym c.is_outside.ensures ∙ c.if-is_outside.false) in (l, h, c.column-first.ensures)

pub returns : goal.returns
returns c = upto_end _ _ _ c.along.ensures
