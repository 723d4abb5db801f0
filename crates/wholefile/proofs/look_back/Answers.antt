use Prim.Native.Nat.{◌-◌}
use native.Mathlib.Omega.{arith}
use Rattle.wholefile.proofs.Looking.{looked_none, looked_more, looked_all}
use Rattle.wholefile.proofs.look_back.Goals as goal

pub loop-i-init : goal.loop-i-init
loop-i-init c = (omega arith, looked_none _ _ _)

pub loop-i-preserved : goal.loop-i-preserved
loop-i-preserved c =
    let l = c.loop-i in
    let a = c.args in (
      omega arith,
      looked_more a.xs.now a.a a.b l.i l.joined l.one l.two l.invariant.1 c.either-now_joined.result c.joins.result
          c.one_if.result c.one_if-in-loop-i.result c.one_if-in-loop-i-2.result c.one_if-in-loop-i-3.result
          c.either-now_joined.ensures c.joins.ensures
          c.one_if.ensures c.one_if-in-loop-i.ensures c.one_if-in-loop-i-2.ensures c.one_if-in-loop-i-3.ensures,
    )

pub returns : goal.returns
returns c =
    let l = c.loop-i in
    let a = c.args in
    looked_all a.xs.now a.a a.b a.k l.i (omega arith) l.invariant.1
