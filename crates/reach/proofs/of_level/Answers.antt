use Prim.Native.Nat.{◌%◌}
use native.Mathlib.Omega.{arith}
use borrow.Author.Tests.{eq-eqb, ne_eqb}
use Rattle.reach.proofs.of_level.Goals as goal

pub returns-then-d-eq0 : goal.returns-then-d-eq0
returns-then-d-eq0 c = rw (eq-eqb (c.args.d % 2) 0 (omega (arith, c.if-d-eq0.true)))

pub returns-else-d-eq0 : goal.returns-else-d-eq0
returns-else-d-eq0 c = rw (ne_eqb (c.args.d % 2) 0 (omega (arith, c.if-d-eq0.false)))
