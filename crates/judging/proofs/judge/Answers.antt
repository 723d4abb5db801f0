use mathlib.Core.Path.{sym, ◌∙◌}
use Rattle.deck.specs.declared.Form.TheVariants.{Judged}
use Rattle.judging.proofs.Judging.{composed-refused, composed-read, judge_refused, judge_read}
use Rattle.judging.proofs.judge.Goals as goal

-- `judging::judge` meets its contract. Assumes nothing.
pub returns-in-Err : goal.returns-in-Err
returns-in-Err c = judge_refused _ _ (composed-refused Judged _ _ (sym c.in-Err.is ∙ c.fields.ensures))

pub returns-in-Ok : goal.returns-in-Ok
returns-in-Ok c =
    let d = c.args.d.now in
    let (k, e, p, q) = composed-read Judged d _ (sym c.in-Ok.is ∙ c.fields.ensures) in
    judge_read d k _ _ c.first_wrong.result _ e p q c.first_wrong.ensures c.compared.ensures
