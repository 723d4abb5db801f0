use mathlib.Core.List.{[], ◌∷◌}
use mathlib.Core.Path.{sym, ◌∙◌, ap}
use Rattle.reply.specs.Read.{Read, read, ◌then◌, as_read}
use Rattle.sdfile.specs.Sdf.{item_reply}
use Rattle.sdfile.specs.declared.Span.{Span}
use Rattle.calls.proofs.Laws.{lent_refused, lent_read}
use Rattle.claim_calls.proofs.sdf_item.Goals as goal
use Rattle.reply.specs.Chain.{read_back}

-- `claim_calls::sdf_item` meets its contract. Assumes nothing.
pub returns-in-Err : goal.returns-in-Err
returns-in-Err c =
    lent_refused _ c.args.span.now c.code_of.result
    (ap (λ (R : Read Span). R then λ x. read (x.start ∷ x.len ∷ [])) (sym (read_back _ (item_reply c.args.text.now c.args.name.now) c.item-answer.ensures) ∙ ap as_read c.in-Err.is))
    c.code_of.ensures

pub returns-in-Ok : goal.returns-in-Ok
returns-in-Ok c =
    lent_read _ c.args.span.now c.give.result _
    (ap (λ (R : Read Span). R then λ x. read (x.start ∷ x.len ∷ [])) (sym (read_back _ (item_reply c.args.text.now c.args.name.now) c.item-answer.ensures) ∙ ap as_read c.in-Ok.is))
    c.give.ensures
