use mathlib.Core.Path.{sym, ◌∙◌, ap}
use Rattle.judging.specs.declared.Verdict.TheVariants as verdict
use Rattle.claiming.proofs.Steps.{judged_none, judged_refused, judged_met}
use Rattle.claiming.proofs.judged.Goals as goal

-- `claiming::judged` meets its contract. Assumes nothing.
pub returns-then-claims-eq0 : goal.returns-then-claims-eq0
returns-then-claims-eq0 c = ap verdict.Refused c.at.ensures ∙ judged_none _ _ _ _ c.if-claims-eq0.true

pub returns-in-Err : goal.returns-in-Err
returns-in-Err c = judged_refused _ _ _ _ c.if-claims-eq0.false (sym c.in-Err.is ∙ c.through.ensures)

pub returns-in-Ok : goal.returns-in-Ok
returns-in-Ok c = judged_met _ _ _ _ c.if-claims-eq0.false _ (sym c.in-Ok.is ∙ c.through.ensures) c.ended.ensures
