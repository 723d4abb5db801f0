use Prim.Native.Nat.{◌-◌}
use mathlib.Core.Path.{refl, ap, ◌∙◌}
use lib.ListN.{get_or, length-set}
use lib.Seq.{sets, take_all}
use native.Mathlib.Omega.{arith}
use Rattle.text.proofs.Putting.{one_more}
use Rattle.wholefile.proofs.put.Goals as goal

pub loop-i-init : goal.loop-i-init
loop-i-init c = (omega arith, refl, refl)

pub loop-i-preserved : goal.loop-i-preserved
loop-i-preserved c =
    let l = c.loop-i in
    let a = c.args in (
      omega arith,
      length-set l.out l.i (get_or a.xs.now l.i 0) ∙ l.invariant.1,
      one_more a.out.now 0 a.xs.now l.out l.i l.i (omega arith) (omega arith) l.invariant.2,
    )

pub returns : goal.returns
returns c =
    let l = c.loop-i in
    let a = c.args in
    l.invariant.2 ∙ ap (sets a.out.now 0) (take_all l.i a.xs.now (omega arith))
