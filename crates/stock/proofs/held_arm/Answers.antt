use mathlib.Core.Path.{sym, ◌∙◌, ap, ap₂}
use native.Mathlib.Omega.{arith}
use lib.ListN.{take}
use Rattle.arms.specs.Arms.{opened_of, arm_in}
use Rattle.stock.specs.Stock.{candidate_arm}
use Rattle.stock.specs.Stands.{arm_stands}
use Rattle.stock.proofs.Making.{site_past, index_past}
use Rattle.stock.proofs.held_arm.Goals as goal

-- `stock::held_arm` meets its contract. Assumes nothing.
pub returns-then-xs-s : goal.returns-then-xs-s
returns-then-xs-s c =
    let a = c.args in
    record { arm = site_past a.d.now (take a.count a.blocks) a.xs.now a.s a.j (omega (arith, c.if-xs-s.true)); place = c.requires }

pub returns-then-s-j : goal.returns-then-s-j
returns-then-s-j c =
    let a = c.args in
    record { arm = index_past a.d.now (take a.count a.blocks) a.xs.now a.s a.j (omega arith) (omega (arith, c.if-s-j.true)); place = c.requires }

pub returns : goal.returns
unfolding candidate_arm
returns c =
    let a = c.args in
    let d = a.d.now in
    let bs = take a.count a.blocks in
    let e = c.hold.ensures in record {
      arm = c.arm_in.ensures ∙ ap₂ arm_in (e.place ∙ ap (opened_of d bs) c.le16_at-number.ensures) c.byte_at.ensures
          ∙ sym (arm_stands d bs a.xs.now a.s a.j (omega (arith, c.if-xs-s.false)) (omega (arith, c.if-s-j.false)));
      place = λ l. e.place ∙ ap (opened_of d bs) (sym e.held);
    }
