use Prim.Native.Nat.{◌-◌}
use mathlib.Core.Path.{sym, ap, ◌∙◌}
use native.Mathlib.Omega.{arith}
use Rattle.reply.specs.Read.{as_result}
use Rattle.reply.specs.Rules.{number_if}
use Rattle.reply.specs.Chain.{some_number}
use Rattle.block.proofs.Reading.{reads_start, reads_fault, reads_next, reads_fine}
use Rattle.std.specs.Prelude.{Err}
use Rattle.wholefile.proofs.bonds.Goals as goal

pub loop-k-init : goal.loop-k-init
loop-k-init c = (omega arith, reads_start _ _)

pub returns-in-Some : goal.returns-in-Some
returns-in-Some c =
    let same = ap number_if (sym c.in-Some.is) ∙ c.fault.ensures in
    ap Err c.at.ensures ∙ sym (ap as_result (reads_fault _ _ _ c.loop-k.invariant.1 (omega arith) _ (some_number c.in-Some.rule) same))

pub loop-k-preserved : goal.loop-k-preserved
loop-k-preserved c = (omega arith, reads_next _ _ _ c.loop-k.invariant.1 (omega arith) (sym c.fault.ensures ∙ ap number_if c.in_default.is))

pub returns : goal.returns
returns c = sym (ap as_result (reads_fine _ _ _ c.loop-k.invariant.1 (omega arith)))
