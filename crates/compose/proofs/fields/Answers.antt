use native.Mathlib.Omega.{arith}
use Rattle.compose.proofs.fields.Goals as goal

-- `compose::fields` meets its contract. Assumes nothing.
pub by_few-requires : goal.by_few-requires
by_few-requires c = omega (arith, c.heads-many.ensures, c.if-many-le-FEW.true)

pub by_some-requires : goal.by_some-requires
by_some-requires c = omega (arith, c.heads-many.ensures, c.if-many-le-SOME.true)

pub by_all-requires : goal.by_all-requires
by_all-requires c = omega (arith, c.heads-many.ensures)
