use mathlib.Core.Path.{sym, ◌∙◌, ap}
use Rattle.reply.specs.Read.{Read, read, ◌then◌, as_read}
use Rattle.block.specs.Index.{vertex_reply}
use Rattle.block.specs.declared.Vertex.{Vertex}
use Rattle.block_calls.specs.Replies.{sums_of}
use Rattle.calls.proofs.Laws.{lent_refused, lent_read}
use Rattle.block_calls.proofs.vertex.Goals as goal
use Rattle.reply.specs.Chain.{read_back}

-- `block_calls::vertex` meets its contract.
pub returns-in-Err : goal.returns-in-Err
returns-in-Err c =
    lent_refused _ c.args.sums.now c.code_of.result
    (ap (λ (R : Read Vertex). R then λ x. read (sums_of x)) (sym (read_back _ (vertex_reply c.args.atoms c.args.bonds.now c.args.atom) c.vertex_sums-answer.ensures) ∙ ap as_read c.in-Err.is))
    c.code_of.ensures

pub returns-in-Ok : goal.returns-in-Ok
returns-in-Ok c =
    lent_read _ c.args.sums.now c.give.result _
    (ap (λ (R : Read Vertex). R then λ x. read (sums_of x)) (sym (read_back _ (vertex_reply c.args.atoms c.args.bonds.now c.args.atom) c.vertex_sums-answer.ensures) ∙ ap as_read c.in-Ok.is))
    c.give.ensures
