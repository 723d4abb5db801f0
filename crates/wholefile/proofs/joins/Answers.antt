use mathlib.Core.Bool.{◌||◌}
use mathlib.Core.Path.{◌∙◌, ap₂}
use Rattle.graph.specs.Graph.{joins}
use Rattle.wholefile.proofs.joins.Goals as goal

-- `wholefile::joins` meets its contract.
pub returns : goal.returns
unfolding joins
returns c = c.either.ensures ∙ ap₂ ◌||◌ c.both.ensures c.both-2.ensures
