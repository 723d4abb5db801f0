use mathlib.Core.Path.{◌∙◌}
use Rattle.reach.proofs.Counting.{four_beside}
use Rattle.reach.proofs.size_of_four.Goals as goal

pub returns : goal.returns
returns c = let a = c.args in (c.size.ensures.0 ∙ four_beside a.a a.b a.c a.d, c.size.ensures.1)

pub size-requires : goal.size-requires
size-requires c = tt
