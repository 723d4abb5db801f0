use mathlib.Core.Path.{ap, ◌∙◌}
use Prim.Native.Nat.{ℕ}
use Rattle.block.specs.Sums.{entry, vertex_by}
use Rattle.block.proofs.Summing.{vertex_total}
use Rattle.block.proofs.around_row.Goals as goal

pub returns : goal.returns
returns c =
    vertex_total _ _ _ _ _ c.along-t.ensures c.wide.ensures.0 ∙ ap (λ (m : ℕ). vertex_by m (entry c.args.row.now) c.args.farthest) c.within-m.ensures.0
