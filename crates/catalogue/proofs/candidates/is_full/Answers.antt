use Prim.Native.Nat.{ℕ}
use mathlib.Core.List.{List}
use mathlib.Core.Path.{◌∙◌, ap}
use lib.Dec.{leb}
use Rattle.graph.specs.Graph.{degree}
use Rattle.block.specs.Block.{limit, bonds_of}
use Rattle.catalogue.proofs.candidates.is_full.Goals as goal

-- `catalogue::candidates::is_full` meets its contract. Assumes nothing.
pub returns : goal.returns
returns c = ap (leb limit) (c.ends_at.ensures ∙ ap (λ (l : List ℕ). degree (bonds_of l) c.args.a) c.bonds_part-bonds.ensures.bytes)
