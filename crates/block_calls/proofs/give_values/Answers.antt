use native.Mathlib.Omega.{arith}
use Rattle.block_calls.specs.Replies.{values_list}
use Rattle.calls.proofs.Laws.{lent_lacking, lent_over, both_put}
use Rattle.block_calls.proofs.give_values.Goals as goal

-- `block_calls::give_values` meets its contract.
pub returns-then-out-lt2 : goal.returns-then-out-lt2
returns-then-out-lt2 c = lent_lacking (values_list c.args.v) c.args.out.now (omega arith)

pub returns : goal.returns
returns c =
    lent_over (values_list c.args.v) c.args.out.now _ (omega arith) (both_put c.args.v.even c.args.v.odd c.args.out.now (omega arith))
