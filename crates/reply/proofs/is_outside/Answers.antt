use borrow.Author.Tests.{eq-eqb, ne_eqb}
use Rattle.reply.proofs.is_outside.Goals as goal

pub returns-then-v-eq0 : goal.returns-then-v-eq0
returns-then-v-eq0 c = simp (eq-eqb _ _ c.if-v-eq0.true)

pub returns-else-v-eq0 : goal.returns-else-v-eq0
returns-else-v-eq0 c = simp (ne_eqb _ _ c.if-v-eq0.false)
