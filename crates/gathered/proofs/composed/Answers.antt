use mathlib.Core.Path.{sym, ◌∙◌, ap}
use Rattle.std.proofs.lemmas.Result.{err_from_is_err_and}
use Rattle.reply.specs.Read.{as_result}
use Rattle.reply.specs.Chain.{fine_read, refused_read}
use Rattle.records.specs.Records.{assembly_kind}
use Rattle.deck.proofs.Turns.{once}
use Rattle.gathered.proofs.Answers.{record_refused, record_fine}
use Rattle.gathered.proofs.composed.Goals as goal

-- `gathered::composed` meets its contract. Assumes nothing.
pub returns-in_err-record_at : goal.returns-in_err-record_at
returns-in_err-record_at c =
    let a = c.args in
    let p = err_from_is_err_and c.from_residual.result c.from_residual.ensures.1 in
    rw (p.1, p.2) (sym (ap as_result (record_refused _ a.d.now _ (sym (once assembly_kind a.d.now 0) ∙ refused_read _ _ (sym c.record_at.ensures ∙ c.in_err-record_at.was)))))

pub returns : goal.returns
returns c =
    let a = c.args in
    c.behind_head.ensures
    ∙ sym (ap as_result (record_fine _ a.d.now (sym (once assembly_kind a.d.now 0) ∙ fine_read _ (sym c.record_at.ensures ∙ c.in_ok-record_at.was))))
