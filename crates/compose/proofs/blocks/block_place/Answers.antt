use borrow.Author.Tests.{eq-eqb, ne_eqb}
use Rattle.compose.proofs.blocks.block_place.Goals as goal

-- `compose::blocks::block_place` meets its contract. Assumes nothing.
pub returns-then-r-eq0 : goal.returns-then-r-eq0
returns-then-r-eq0 c = rw (eq-eqb c.args.r.place 0 c.if-r-eq0.true)

pub returns : goal.returns
returns c = rw (ne_eqb c.args.r.place 0 c.if-r-eq0.false)
