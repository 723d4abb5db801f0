use native.Mathlib.Omega.{arith}
use Rattle.compose.proofs.distance.placed_distance.Goals as goal

-- `compose::distance::placed_distance` meets its contract. Assumes nothing.
pub distance_few-requires : goal.distance_few-requires
distance_few-requires c = omega (arith, c.heads.ensures.0, c.if-heads-le-FEW.true)

pub distance_all-requires : goal.distance_all-requires
distance_all-requires c = omega (arith, c.heads.ensures)
