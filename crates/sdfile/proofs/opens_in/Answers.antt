use Prim.Native.Nat.{◌-◌}
use native.Mathlib.Omega.{arith}
use Rattle.sdfile.proofs.Items.{opens_end, opens_next}
use Rattle.sdfile.proofs.opens_in.Goals as goal

pub loop-i-init : goal.loop-i-init
loop-i-init c = (omega arith, omega arith)

pub overflow_add-k : goal.overflow_add-k
overflow_add-k c = let l = c.loop-i in omega (arith, l.invariant.1, c.opening-k.ensures.1)

pub loop-i-preserved : goal.loop-i-preserved
loop-i-preserved c =
    let l = c.loop-i in
    let d = c.args.name.now in
    (opens_next d l.i l.k c.opening-k.result (omega arith) l.invariant.0 c.opening-k.ensures.0, omega (arith, l.invariant.1, c.opening-k.ensures.1))

pub returns : goal.returns
returns c =
    let l = c.loop-i in
    opens_end c.args.name.now l.i l.k (omega arith) l.invariant.0
