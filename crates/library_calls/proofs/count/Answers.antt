use Rattle.catalogue.specs.Products.{count_reply}
use Rattle.calls.proofs.Laws.{lent_number}
use Rattle.library_calls.proofs.count.Goals as goal

-- `library_calls::count` meets its contract.
pub returns : goal.returns
returns c =
    let a = c.args in
    lent_number _ (count_reply a.deck.now) c.count-answer.ensures c.give_number.ensures
