use mathlib.Core.Path.{sym, ◌∙◌}
use Rattle.half.specs.Reads.{none_place, up_place, down_place}
use Rattle.half.proofs.Pairs.{is_up, is_down}
use Rattle.half.proofs.place.Goals as goal
use Rattle.half.proofs.place.Goals.{Else-i-j, Then-i-j}

pub returns-then-no_pair : goal.returns-then-no_pair
returns-then-no_pair c = sym (none_place _ _ (sym c.no_pair.ensures ∙ c.if-no_pair.true))

pub above-requires : goal.above-requires
above-requires c = is_up _ _ (sym c.no_pair.ensures ∙ c.if-no_pair.false) c.if-i-j.true

pub above-requires-else-i-j : goal.above-requires-else-i-j
above-requires-else-i-j c = is_down _ _ (sym c.no_pair.ensures ∙ c.if-no_pair.false) c.if-i-j.false

pub returns-then-i-j : goal.returns-then-i-j
returns-then-i-j c = c.above.ensures ∙ sym (up_place (above-requires (goal.at.returns-then-i-j c).Then-i-j))

pub returns-else-i-j : goal.returns-else-i-j
returns-else-i-j c = c.above-else-i-j.ensures ∙ sym (down_place (above-requires-else-i-j (goal.at.returns-else-i-j c).Else-i-j))
