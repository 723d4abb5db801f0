use mathlib.Core.Path.{ap}
use Rattle.calls.specs.Blocks.{fields_list}
use Rattle.calls.proofs.Laws.{lent_refused, lent_read}
use Rattle.calls.proofs.give_indices.Goals as goal
use Rattle.reply.specs.Read.{as_read}
use Rattle.std.specs.Prelude.{Result}
use Rattle.reply.specs.declared.Refusal.{Refusal}
use Rattle.block.specs.declared.Indices.{Indices}

-- `calls::give_indices` meets its contract.
pub returns-in-Err : goal.returns-in-Err
returns-in-Err c = let a = c.args in lent_refused _ a.out.now c.code_of.result (ap (λ (r : Result Indices Refusal). fields_list a.sheet (as_read r)) c.in-Err.is) c.code_of.ensures

pub returns-in-Ok : goal.returns-in-Ok
returns-in-Ok c =
    let a = c.args in
    lent_read _ a.out.now c.give_fields.result _ (ap (λ (r : Result Indices Refusal). fields_list a.sheet (as_read r)) c.in-Ok.is) c.give_fields.ensures
