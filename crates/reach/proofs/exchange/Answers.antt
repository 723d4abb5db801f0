use native.Mathlib.Omega.{arith}
use lib.ListN.{length-set}
use Rattle.reach.proofs.exchange.Goals as goal

pub bounds-sets-v : goal.bounds-sets-v
bounds-sets-v c = rw length-set (omega arith)

pub bounds-sets-v-2 : goal.bounds-sets-v-2
bounds-sets-v-2 c = rw length-set (omega arith)
