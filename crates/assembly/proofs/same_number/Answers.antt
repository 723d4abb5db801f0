use mathlib.Core.Path.{sym}
use native.Mathlib.Omega.{arith}
use borrow.Author.Tests.{ne_eqb}
use Rattle.assembly.proofs.same_number.Goals as goal

-- `assembly::same_number` meets its contract. Assumes nothing.
pub returns-then-number-gt-LARGEST_NUMBER : goal.returns-then-number-gt-LARGEST_NUMBER
returns-then-number-gt-LARGEST_NUMBER c = sym (ne_eqb c.args.x c.args.number (omega arith))
