use Prim.Native.Nat.{suc, ◌-◌}
use mathlib.Core.Path.{◌≡◌, refl, ◌∙◌}
use native.Mathlib.Omega.{arith}
use lib.ListN.{length-set}
use lib.Seq.{get_or-set_other}
use Rattle.block.specs.Block.{most_atoms}
use Rattle.shares.specs.Work.{at}
use Rattle.block.specs.Lent.{zeros}
use Rattle.shares.proofs.Rows.{placed}
use Rattle.shares.proofs.Layering.{turned}
use Rattle.shares.proofs.sweeps.reversed.Goals as goal

pub loop-d-init : goal.loop-d-init
loop-d-init c = (omega arith, refl, λ k l. absurd (omega arith), λ k l. zeros (suc most_atoms) k)

pub loop-d-preserved : goal.loop-d-preserved
loop-d-preserved c =
    let l = c.loop-d in
    let a = c.args in
    let x = at a.sets.now (a.top - l.d) in (
      omega arith,
      length-set l.back l.d x ∙ l.invariant.1,
      placed l.back l.d x (λ k. at a.sets.now (a.top - k)) (omega arith) l.invariant.2 refl,
      λ k h. get_or-set_other l.back l.d k x 0 (omega arith) ∙ l.invariant.3 k (omega arith),
    )

pub returns-2 : goal.returns-2
returns-2 c n key L =
    let l = c.loop-d in
    let a = c.args in
    let e : l.d ≡ a.top = omega arith in
    let x = at a.sets.now (a.top - l.d) in
    turned n key _ _ _ (λ d h. placed l.back l.d x (λ k. at a.sets.now (a.top - k)) (omega arith) l.invariant.2 refl d (omega arith))
    (λ d h. get_or-set_other l.back l.d d x 0 (omega arith) ∙ l.invariant.3 d (omega arith)) L
