use mathlib.Core.Path.{sym, ◌∙◌, ap}
use Rattle.reply.specs.Read.{Read, read, ◌then◌, as_read}
use Rattle.sets.specs.Reply.{sets_reply}
use Rattle.sets.specs.declared.Sets.{Sets}
use Rattle.block_calls.specs.Replies.{sets_numbers}
use Rattle.calls.proofs.Laws.{lent_refused, lent_read}
use Rattle.block_calls.proofs.count_sets.Goals as goal
use Rattle.reply.specs.Chain.{read_back}

-- `block_calls::count_sets` meets its contract.
pub returns-in-Err : goal.returns-in-Err
returns-in-Err c =
    lent_refused _ c.args.counts.now c.code_of.result
    (ap (λ (R : Read Sets). R then λ x. read (sets_numbers x)) (sym (read_back _ (sets_reply c.args.atoms c.args.bonds.now) c.count-answer.ensures) ∙ ap as_read c.in-Err.is))
    c.code_of.ensures

pub returns-in-Ok : goal.returns-in-Ok
returns-in-Ok c =
    lent_read _ c.args.counts.now c.give.result _
    (ap (λ (R : Read Sets). R then λ x. read (sets_numbers x)) (sym (read_back _ (sets_reply c.args.atoms c.args.bonds.now) c.count-answer.ensures) ∙ ap as_read c.in-Ok.is))
    c.give.ensures
