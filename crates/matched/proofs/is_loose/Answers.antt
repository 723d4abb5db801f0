use mathlib.Core.Path.{sym, ◌∙◌}
use Rattle.block.specs.Block.{graph_of}
use mathlib.Core.Logic.{⊎_elim}
use Rattle.matched.specs.Laws.{loose_one, loose_two, loose_apart}
use Rattle.matched.proofs.is_loose.Goals as goal

-- `matched::is_loose` meets its contract. Assumes nothing.
pub returns-then-is_outside : goal.returns-then-is_outside
returns-then-is_outside c =
    let a = c.args in
    ⊎_elim
    (λ w. loose_one (graph_of a.n a.bonds.now) (graph_of a.n a.whole.now) a.to.now a.one a.two (sym c.is_outside.ensures ∙ w.if-is_outside.true))
    (λ w. loose_two (graph_of a.n a.bonds.now) (graph_of a.n a.whole.now) a.to.now a.one a.two (sym c.is_outside.ensures ∙ w.if-is_outside.false) (sym w.is_outside-else-is_outside.ensures ∙ w.if-is_outside-2.true))
    c.then-is_outside.branch-raw

pub returns : goal.returns
returns c =
    let a = c.args in
    loose_apart (graph_of a.n a.bonds.now) (graph_of a.n a.whole.now) a.to.now a.one a.two c.is_bonded.result c.partner.result c.partner-2.result
    (sym c.is_outside.ensures ∙ c.if-is_outside.false) (sym c.is_outside-else-is_outside.ensures ∙ c.if-is_outside-2.false) c.partner.ensures c.partner-2.ensures c.is_bonded.ensures
