use mathlib.Core.Path.{◌≡◌, sym, ap, ◌∙◌}
use Rattle.molfile.specs.Molfile.{hydrogen_at}
use Rattle.molfile.specs.Work.{mark_of}
use Rattle.molfile.proofs.mark.Goals as goal
use Rattle.molfile.proofs.mark.Goals.{After-one_h}

-- `molfile::mark` meets its contract. Assumes nothing.
is-h : (c : After-one_h) → let a = c.args in c.one_h.result ≡ hydrogen_at a.d.now a.at
unfolding hydrogen_at
is-h c = rw (← c.symbol-c.ensures, ← c.symbol-b.ensures, ← c.symbol-a.ensures) c.one_h.ensures

pub returns-then-one_h : goal.returns-then-one_h
returns-then-one_h c = ap mark_of (sym c.if-one_h.true ∙ is-h (goal.at.returns-then-one_h c).After-one_h)

pub returns-else-one_h : goal.returns-else-one_h
returns-else-one_h c = ap mark_of (sym c.if-one_h.false ∙ is-h (goal.at.returns-else-one_h c).After-one_h)
