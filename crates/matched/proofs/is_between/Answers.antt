use mathlib.Core.Bool.{true}
use mathlib.Core.Path.{sym, ◌∙◌}
use Rattle.matched.specs.Laws.{joins_first, joins_second}
use Rattle.matched.proofs.is_between.Goals as goal

-- `matched::is_between` meets its contract. Assumes nothing.
pub returns-then-is_pair : goal.returns-then-is_pair
returns-then-is_pair c = let a = c.args in c.if-is_pair.true ∙ joins_first a.one a.two a.x a.y true (sym c.is_pair.ensures ∙ c.if-is_pair.true)

pub returns-else-is_pair : goal.returns-else-is_pair
returns-else-is_pair c = let a = c.args in joins_second a.one a.two a.x a.y c.is_pair-else-is_pair.result (sym c.is_pair.ensures ∙ c.if-is_pair.false) c.is_pair-else-is_pair.ensures
