use native.Mathlib.Nat.{mul-le-mul}
use native.Mathlib.Omega.{arith}
use Rattle.balaban.proofs.Squares.{above_none}
use Rattle.balaban.proofs.roots.down.Goals as goal

pub loop-t-init : goal.loop-t-init
loop-t-init c = c.requires

pub overflow_mul-t : goal.overflow_mul-t
overflow_mul-t c = let l = mul-le-mul c.loop-t.invariant c.loop-t.invariant in omega arith

pub overflow_sub-t : goal.overflow_sub-t
overflow_sub-t c = above_none c.args.q c.loop-t.t c.loop-t-test.true

pub loop-t-smaller : goal.loop-t-smaller
loop-t-smaller c = let l = above_none c.args.q c.loop-t.t c.loop-t-test.true in omega arith
