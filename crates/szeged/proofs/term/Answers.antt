use Prim.Native.Nat.{◌*◌, ◌≤◌}
use mathlib.Core.Path.{ap₂, ◌∙◌}
use native.Mathlib.Omega.{arith}
use Rattle.block.specs.Block.{most_atoms}
use Rattle.szeged.specs.Work.{smaller}
use Rattle.szeged.proofs.Counting.{product_most}
use Rattle.szeged.proofs.term.Goals as goal
use Rattle.szeged.proofs.term.Goals.{After-nearer-q}

-- `term` meets its contract: the two counts, multiplied.
small : (c : After-nearer-q) → c.nearer-p.result * c.nearer-q.result ≤ most_atoms * most_atoms
small c = product_most c.requires c.nearer-p.ensures.most c.nearer-q.ensures.most

pub overflow_mul-result : goal.overflow_mul-result
overflow_mul-result c = omega (arith, small (goal.at.overflow_mul-result c).After-nearer-q)

pub returns : goal.returns
returns c =
    let n = c.args.n in
    let u = c.row-one.ensures in
    let v = c.row-two.ensures in
    record { is = ap₂ ◌*◌ (c.nearer-p.ensures.is ∙ ap₂ (smaller n) u v) (c.nearer-q.ensures.is ∙ ap₂ (smaller n) v u); most = small (goal.at.returns c).After-nearer-q }
