use Prim.Native.Nat.{◌-◌}
use mathlib.Core.Path.{refl, ◌∙◌}
use lib.ListN.{length-set}
use native.Mathlib.Omega.{arith}
use Rattle.blockfile.proofs.Lows.{narrow_more, narrow_all}
use Rattle.blockfile.proofs.narrow.Goals as goal

pub loop-i-init : goal.loop-i-init
loop-i-init c = (omega arith, refl, refl)

pub loop-i-preserved : goal.loop-i-preserved
loop-i-preserved c =
    let l = c.loop-i in
    let a = c.args in (
      omega arith,
      length-set l.out l.i c.low.result ∙ l.invariant.1,
      narrow_more a.xs.now a.out.now l.out l.i c.low.result (omega arith) c.low.ensures l.invariant.2,
    )

pub returns : goal.returns
returns c =
    let l = c.loop-i in
    let a = c.args in
    narrow_all a.xs.now a.out.now l.out l.i (omega arith) l.invariant.2
