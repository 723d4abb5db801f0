use mathlib.Core.Path.{sym, ◌∙◌}
use Rattle.records.specs.Words.{four_sum, eight_sum}
use Rattle.records.proofs.little.little_at.Goals as goal

-- `little_at` meets its contract.
pub get8-requires : goal.get8-requires
get8-requires c = (c.is_whole.ensures c.if-is_whole.true).1

pub returns-then-is_whole : goal.returns-then-is_whole
returns-then-is_whole c = rw (c.is_whole.ensures c.if-is_whole.true).0 (c.get8.ensures ∙ sym (eight_sum _ _))

pub get4-requires : goal.get4-requires
get4-requires c = (c.is_whole-2.ensures c.if-is_whole-2.true).1

pub returns-then-is_whole-2 : goal.returns-then-is_whole-2
returns-then-is_whole-2 c = rw (c.is_whole-2.ensures c.if-is_whole-2.true).0 (c.get4.ensures.0 ∙ sym (four_sum _ _))
