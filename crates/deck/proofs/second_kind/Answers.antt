use borrow.Author.Tests.{eq-eqb, ne_eqb}
use Rattle.deck.proofs.second_kind.Goals as goal

-- `deck::second_kind` meets its contract. Assumes nothing.
pub returns-then-count-eq0 : goal.returns-then-count-eq0
returns-then-count-eq0 c = simp (eq-eqb c.args.count 0 c.if-count-eq0.true)

pub returns : goal.returns
returns c = simp (ne_eqb c.args.count 0 c.if-count-eq0.false)
