use mathlib.Core.Path.{refl}
use borrow.Author.Tests.{eq-eqb, ne_eqb}
use Rattle.graph.specs.Graph.{odd_of}
use Rattle.reach.proofs.odd_part.Goals as goal

pub returns-then-d-eq0 : goal.returns-then-d-eq0
unfolding odd_of
returns-then-d-eq0 c = rw (eq-eqb _ _ c.if-d-eq0.true) refl

pub returns-else-d-eq0 : goal.returns-else-d-eq0
unfolding odd_of
returns-else-d-eq0 c = rw (ne_eqb _ _ c.if-d-eq0.false) refl
