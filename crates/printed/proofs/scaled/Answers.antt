use Prim.Native.Nat.{◌*◌}
use native.Mathlib.Nat.{le-div_iff_mul-le, div-lt_iff_lt-mul}
use native.Mathlib.Omega.{arith}
use Rattle.printed.proofs.Reading.{bounded_small, bounded_large}
use Rattle.printed.proofs.scaled.Reads as reads
use Rattle.printed.proofs.scaled.Lts as lts
use Rattle.printed.proofs.scaled.Goals as goal

-- `printed::scaled` meets its contract. Assumes nothing.
pub returns-then-c-unit : goal.returns-then-c-unit
returns-then-c-unit c = let a = c.args in bounded_large (a.c * a.unit) a.unit (omega (arith, (div-lt_iff_lt-mul c.requires).0 c.if-c-unit.true))

pub overflow_mul-result : goal.overflow_mul-result
overflow_mul-result c = omega (arith, (le-div_iff_mul-le c.requires).0 c.if-c-unit.false)

pub returns : goal.returns
returns c = let a = c.args in bounded_small (a.c * a.unit) a.unit (omega (arith, (le-div_iff_mul-le c.requires).0 c.if-c-unit.false))
