use Prim.Native.Nat.{◌-◌, ◌*◌}
use mathlib.Core.Path.{sym, ap, ◌∙◌}
use native.Mathlib.Omega.{arith}
use lib.ListN.{length-take}
use Rattle.reply.specs.Rules.{number_if}
use Rattle.reply.specs.Chain.{some_number}
use Rattle.block.specs.Sketched.{or_seven}
use Rattle.block.proofs.Reading.{same_fault, reads_start, reads_fault, reads_next, reads_fine}
use Rattle.block.proofs.bonding.refusal.Goals as goal

pub loop-k-init : goal.loop-k-init
loop-k-init c = (omega arith, reads_start _ _)

pub slice_bounds-fault-end : goal.slice_bounds-fault-end
slice_bounds-fault-end c = omega (arith, length-take (2 * c.loop-k.k) c.args.bonds.now)

pub returns-in-Some : goal.returns-in-Some
returns-in-Some c =
    let r = c.in-Some.rule in
    let same = ap number_if (sym c.in-Some.is) ∙ c.fault.ensures ∙ same_fault _ _ _ (omega arith) _ in
    c.at.ensures ∙ sym (ap or_seven (reads_fault _ _ _ c.loop-k.invariant.1 (omega arith) _ (some_number r) same))

pub loop-k-preserved : goal.loop-k-preserved
loop-k-preserved c = (omega arith, reads_next _ _ _ c.loop-k.invariant.1 (omega arith) (sym (c.fault.ensures ∙ same_fault _ _ _ (omega arith) _) ∙ ap number_if c.in_default.is))

pub returns : goal.returns
returns c = c.at-2.ensures ∙ sym (ap or_seven (reads_fine _ _ _ c.loop-k.invariant.1 (omega arith)))
