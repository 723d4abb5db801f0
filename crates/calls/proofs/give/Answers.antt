use native.Mathlib.Omega.{arith}
use Rattle.calls.proofs.Laws.{lent_lacking, lent_over}
use Rattle.calls.proofs.give.Goals as goal

-- `calls::give` meets its contract.
pub returns-then-out-numbers : goal.returns-then-out-numbers
returns-then-out-numbers c = lent_lacking c.args.numbers.now c.args.out.now (omega arith)

pub returns : goal.returns
returns c =
    lent_over c.args.numbers.now c.args.out.now _ (omega arith) c.put.ensures
