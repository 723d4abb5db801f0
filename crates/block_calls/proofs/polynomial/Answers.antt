use mathlib.Core.Path.{sym, ◌∙◌, ap}
use Rattle.reply.specs.Read.{Read, read, ◌then◌, as_read}
use Rattle.poly.specs.declared.Values.{Values}
use Rattle.poly.specs.Poly.{polynomial_reply}
use Rattle.block_calls.specs.Replies.{values_list}
use Rattle.calls.proofs.Laws.{lent_refused, lent_read}
use Rattle.block_calls.proofs.polynomial.Goals as goal
use Rattle.reply.specs.Chain.{read_back}

-- `block_calls::polynomial` meets its contract.
pub returns-in-Err : goal.returns-in-Err
returns-in-Err c =
    lent_refused _ c.args.values.now c.code_of.result
    (ap (λ (R : Read Values). R then λ v. read (values_list v)) (sym (read_back _ (polynomial_reply c.args.atoms c.args.bonds.now c.args.x) c.polynomial-answer.ensures) ∙ ap as_read c.in-Err.is))
    c.code_of.ensures

pub returns-in-Ok : goal.returns-in-Ok
returns-in-Ok c =
    lent_read _ c.args.values.now c.give_values.result _
    (ap (λ (R : Read Values). R then λ v. read (values_list v)) (sym (read_back _ (polynomial_reply c.args.atoms c.args.bonds.now c.args.x) c.polynomial-answer.ensures) ∙ ap as_read c.in-Ok.is))
    c.give_values.ensures
