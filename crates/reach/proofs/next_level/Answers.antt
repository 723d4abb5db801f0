use Prim.Native.Nat.{◌%◌}
use mathlib.Core.Path.{refl}
use native.Mathlib.Omega.{arith}
use borrow.Author.Tests.{eq-eqb, ne_eqb}
use Rattle.reach.proofs.next_level.Goals as goal

pub returns-then-d-eq0 : goal.returns-then-d-eq0
returns-then-d-eq0 c = record { kept = rw (eq-eqb (c.args.d % 2) 0 (omega (arith, c.if-d-eq0.true))) (refl); next = rw (eq-eqb (c.args.d % 2) 0 (omega (arith, c.if-d-eq0.true))) (c.spread.ensures) }

pub returns : goal.returns
returns c = record { kept = rw (ne_eqb (c.args.d % 2) 0 (omega (arith, c.if-d-eq0.false))) (refl); next = rw (ne_eqb (c.args.d % 2) 0 (omega (arith, c.if-d-eq0.false))) (c.spread-2.ensures) }
