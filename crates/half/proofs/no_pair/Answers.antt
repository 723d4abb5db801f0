use mathlib.Core.Path.{sym, ◌∙◌}
use Rattle.half.specs.Half.{no_pair}
use Rattle.half.proofs.no_pair.Goals as goal

pub returns-then-is_outside : goal.returns-then-is_outside
unfolding no_pair
returns-then-is_outside c = rw (sym c.is_outside.ensures ∙ c.if-is_outside.true)

pub returns-then-is_outside-2 : goal.returns-then-is_outside-2
unfolding no_pair
returns-then-is_outside-2 c = rw (sym c.is_outside.ensures ∙ c.if-is_outside.false, sym c.is_outside-2.ensures ∙ c.if-is_outside-2.true)

pub returns : goal.returns
unfolding no_pair
returns c = rw (sym c.is_outside.ensures ∙ c.if-is_outside.false, sym c.is_outside-2.ensures ∙ c.if-is_outside-2.false)
