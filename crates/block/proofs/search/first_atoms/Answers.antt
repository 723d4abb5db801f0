use mathlib.Core.Path.{sym, ◌∙◌, ap}
use Rattle.graph.specs.Sets.{firsts}
use Rattle.graph.specs.SetLaws.{shifted_down}
use Rattle.block.specs.Block.{most_atoms}
use Rattle.block.proofs.search.first_atoms.Goals as goal

pub returns-then-m-eq0 : goal.returns-then-m-eq0
returns-then-m-eq0 c = sym (ap firsts (sym c.within-m.ensures.0 ∙ c.if-m-eq0.true))

pub returns-else-m-eq0 : goal.returns-else-m-eq0
returns-else-m-eq0 c = shifted_down most_atoms _ c.within-m.ensures.1 ∙ ap firsts c.within-m.ensures.0
