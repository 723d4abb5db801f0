use native.Mathlib.Omega.{arith}
use Rattle.block.specs.Lent.{zeros}
use Rattle.compose.proofs.distance.distance_all.Goals as goal

-- `compose::distance::distance_all` meets its contract. Assumes nothing.
pub distance_in-requires : goal.distance_in-requires
distance_in-requires c = record { room = omega (arith, c.requires); none = zeros 8448 }
