use mathlib.Core.Path.{sym, ◌∙◌, ap, refl}
use Rattle.reply.specs.Read.{refusal}
use Rattle.claim_calls.specs.Spans.{step_list}
use Rattle.calls.proofs.Laws.{lent_refused, lent_read}
use Rattle.claim_calls.proofs.sdf_record.Goals as goal

-- `claim_calls::sdf_record` meets its contract. Assumes nothing.
pub returns-in-None : goal.returns-in-None
returns-in-None c =
    lent_refused (refusal 254 0) c.args.span.now 254 (ap step_list (sym c.record-answer.ensures ∙ c.in-None.is)) refl

pub returns-in-Some : goal.returns-in-Some
returns-in-Some c =
    lent_read _ c.args.span.now c.give.result _ (ap step_list (sym c.record-answer.ensures ∙ c.in-Some.is)) c.give.ensures
