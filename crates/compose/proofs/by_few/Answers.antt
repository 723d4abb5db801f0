use native.Mathlib.Omega.{arith}
use Rattle.block.specs.Lent.{zeros}
use Rattle.compose.proofs.by_few.Goals as goal

-- `compose::by_few` meets its contract. Assumes nothing.
pub in_book-requires : goal.in_book-requires
in_book-requires c = record { room = omega (arith, c.requires); none = zeros 1056 }
