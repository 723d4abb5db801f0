use mathlib.Core.Path.{ap}
use Rattle.calls.specs.Convention.{counts_list}
use Rattle.calls.proofs.Laws.{lent_refused, lent_read}
use Rattle.calls.proofs.give_counts.Goals as goal
use Rattle.reply.specs.Read.{as_read}
use Rattle.std.specs.Prelude.{Result}
use Rattle.reply.specs.declared.Refusal.{Refusal}
use Rattle.reply.specs.declared.Counts.{Counts}

-- `calls::give_counts` meets its contract.
pub returns-in-Err : goal.returns-in-Err
returns-in-Err c = lent_refused _ c.args.out.now c.code_of.result (ap (λ (a : Result Counts Refusal). counts_list (as_read a)) c.in-Err.is) c.code_of.ensures

pub returns-in-Ok : goal.returns-in-Ok
returns-in-Ok c =
    lent_read _ c.args.out.now c.give.result _ (ap (λ (a : Result Counts Refusal). counts_list (as_read a)) c.in-Ok.is) c.give.ensures
