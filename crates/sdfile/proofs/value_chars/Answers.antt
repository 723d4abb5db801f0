use mathlib.Core.Path.{sym, ◌∙◌}
use Rattle.text.specs.Laws.{said_chars}
use Rattle.sdfile.proofs.Items.{value_missing, value_header, value_line}
use Rattle.sdfile.proofs.value_chars.Goals as goal

-- `sdfile::value_chars` meets its contract. Assumes nothing.
pub returns-then-d-at : goal.returns-then-d-at
returns-then-d-at c = value_missing _ _ c.if-d-at.true

pub returns-then-is_some_header : goal.returns-then-is_some_header
returns-then-is_some_header c = value_header _ _ (sym c.is_some_header.ensures ∙ c.if-is_some_header.true)

pub returns : goal.returns
returns c = value_line _ _ _ (sym c.is_some_header.ensures ∙ c.if-is_some_header.false) (said_chars _ _ c.line_at-value.ensures)
