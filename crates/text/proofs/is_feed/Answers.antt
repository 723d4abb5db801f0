use borrow.Author.Tests.{eq-eqb, ne_eqb}
use Rattle.text.proofs.is_feed.Goals as goal

-- `text::is_feed` meets its contract. Assumes nothing.
pub returns-then-b-eq-FEED : goal.returns-then-b-eq-FEED
returns-then-b-eq-FEED c = simp (eq-eqb _ _ c.if-b-eq-FEED.true)

pub returns-else-b-eq-FEED : goal.returns-else-b-eq-FEED
returns-else-b-eq-FEED c = simp (ne_eqb _ _ c.if-b-eq-FEED.false)
