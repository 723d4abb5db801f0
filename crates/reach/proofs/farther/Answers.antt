use Prim.Native.Nat.{◌≤◌}
use native.Mathlib.Nat.{mul-le-mul}
use native.Mathlib.Omega.{arith}
use lib.Dec.{eqb}
use Rattle.graph.specs.Bounds.{tame_odd}
use Rattle.block.proofs.Tallies.{bit_low, bit_at}
use Rattle.reach.proofs.farther.Goals as goal
use Rattle.reach.proofs.farther.Goals.{After-odd_part}

pub overflow_mul-result : goal.overflow_mul-result
overflow_mul-result c = omega (arith, mul-le-mul c.requires.1 c.requires.2)

pub overflow_add-result : goal.overflow_add-result
overflow_add-result c = let p = c.requires in omega (arith, p.0.all_low, mul-le-mul p.1 p.2)

odd_low : (c : After-odd_part) → c.odd_part.result ≤ 65
odd_low c = omega (arith, c.odd_part.ensures, tame_odd.tame c.args.d, c.requires.1)

pub overflow_mul-result-2 : goal.overflow_mul-result-2
overflow_mul-result-2 c = let p = c.requires in omega (arith, mul-le-mul (odd_low (goal.at.overflow_mul-result-2 c).After-odd_part) p.2)

pub overflow_add-result-2 : goal.overflow_add-result-2
overflow_add-result-2 c = let p = c.requires in omega (arith, p.0.odd_low, mul-le-mul (odd_low (goal.at.overflow_add-result-2 c).After-odd_part) p.2)

pub overflow_mul-result-3 : goal.overflow_mul-result-3
overflow_mul-result-3 c = let p = c.requires in omega (arith, mul-le-mul (bit_low (eqb c.args.d 3)) p.2)

pub overflow_add-result-3 : goal.overflow_add-result-3
overflow_add-result-3 c =
    let p = c.requires in
    omega (arith, p.0.threes_low, mul-le-mul (bit_low (eqb c.args.d 3)) p.2)

pub returns : goal.returns
returns c = rw (c.odd_part.ensures, bit_at 3 c.args.d)
