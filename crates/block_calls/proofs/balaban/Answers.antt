use Rattle.balaban.specs.Balaban.{balaban_reply}
use Rattle.calls.proofs.Laws.{lent_number}
use Rattle.block_calls.proofs.balaban.Goals as goal

-- `block_calls::balaban` meets its contract.
pub returns : goal.returns
returns c =
    let a = c.args in
    lent_number _ (balaban_reply a.atoms a.bonds.now) c.index-answer.ensures c.give_number.ensures
