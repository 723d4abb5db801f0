use mathlib.Core.Path.{sym, ◌∙◌}
use native.Mathlib.Omega.{arith}
use Rattle.printed.proofs.Reading.{inside, no_point, a_point}
use Rattle.printed.proofs.behind_point.Reads as reads
use Rattle.printed.proofs.behind_point.Lts as lts
use Rattle.records.proofs.byte_at.Reads as byte-at-reads
use Rattle.printed.proofs.behind_point.Goals as goal

-- `printed::behind_point` meets its contract. Assumes nothing.
pub returns-then-byte_at-ne-POINT : goal.returns-then-byte_at-ne-POINT
returns-then-byte_at-ne-POINT c = let a = c.args in sym (no_point a.text.now a.at (λ e. c.if-byte_at-ne-POINT.true (c.byte_at.ensures ∙ e)))

pub overflow_add-result : goal.overflow_add-result
overflow_add-result c = let a = c.args in omega (arith, inside a.text.now a.at (λ z. omega (arith, c.byte_at.ensures, c.if-byte_at-ne-POINT.false)))

pub returns : goal.returns
returns c = let a = c.args in sym (a_point a.text.now a.at (sym c.byte_at.ensures ∙ c.if-byte_at-ne-POINT.false))
