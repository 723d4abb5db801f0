use mathlib.Core.Bool.{Bool, not}
use mathlib.Core.Path.{sym, ◌∙◌, ap}
use Rattle.graph.specs.Graph.{bond}
use Rattle.block.specs.Block.{graph_of}
use Rattle.matched.specs.Matched.{is_unlisted}
use Rattle.matched.specs.Work.{is_amiss}
use Rattle.matched.proofs.is_amiss.Goals as goal

-- `matched::is_amiss` meets its contract. Assumes nothing.
pub returns-then-listed : goal.returns-then-listed
returns-then-listed c =
    let a = c.args in
    c.is_loose.ensures ∙ ap (λ (t : Bool). is_amiss t (graph_of a.n a.bonds.now) (graph_of a.n a.whole.now) a.to.now (bond a.one a.two)) (sym c.if-listed.true)

pub returns : goal.returns
unfolding is_unlisted
returns c =
    let a = c.args in
    ap not c.is_carried.ensures ∙ ap (λ (t : Bool). is_amiss t (graph_of a.n a.bonds.now) (graph_of a.n a.whole.now) a.to.now (bond a.one a.two)) (sym c.if-listed.false)
