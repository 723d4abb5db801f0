use mathlib.Core.Path.{sym, ◌∙◌}
use Rattle.text.proofs.Putting.{none, both}
use Rattle.adjacency.specs.Written.{greater}
use Rattle.adjacency.specs.Work.{joined_in}
use Rattle.adjacency.proofs.Putting.{line_none, line_some}
use Rattle.neighbours.proofs.writing.line.Goals as goal

-- `line` meets its contract. Assumes nothing.
pub returns-then-count-eq0 : goal.returns-then-count-eq0
returns-then-count-eq0 c =
    let a = c.args in
    rw (line_none a.i (greater (joined_in a.near.now) a.n a.i) (sym c.count.ensures ∙ c.if-count-eq0.true)) none

pub returns : goal.returns
returns c =
    let a = c.args in
    rw (line_some a.i (greater (joined_in a.near.now) a.n a.i) (λ e. c.if-count-eq0.false (c.count.ensures ∙ e)))
    (both (both c.number-a.ensures c.neighbours-b.ensures) c.put.ensures)
