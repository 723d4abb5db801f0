use mathlib.Core.Path.{◌∙◌}
use native.Mathlib.Omega.{arith}
use lib.ListN.{length}
use Rattle.szeged.specs.Reply.{szeged_reply}
use Rattle.szeged.proofs.Reply.{reply-refused}
use Rattle.calls.proofs.Laws.{lent_number}
use Rattle.block_calls.proofs.Both.{block_lacking, block_given, szeged_unlent, szeged_lent}
use Rattle.block_calls.proofs.szeged.Goals as goal

-- `block_calls::szeged` meets its contract.
pub returns-then-index-lt1 : goal.returns-then-index-lt1
returns-then-index-lt1 c =
    let a = c.args in
    block_lacking a.atoms a.bonds.now (szeged_reply a.atoms a.bonds.now (length a.terms.now)) _ a.terms.now a.index.now _ (omega arith)
    (szeged_unlent a.atoms a.bonds.now a.index.now _ _ (omega arith) (lent_number _ (szeged_reply a.atoms a.bonds.now 0) c.terms-answer.ensures.reply c.give_number.ensures))

pub returns : goal.returns
returns c =
    let a = c.args in
    let R = szeged_reply a.atoms a.bonds.now (length a.terms.now) in
    block_given a.atoms a.bonds.now R _ a.terms.now a.index.now (λ r e. reply-refused a.atoms a.bonds.now (length a.terms.now) e) (omega arith)
    (c.terms-answer-2.ensures.entries ∙ szeged_lent a.atoms a.bonds.now a.terms.now) (lent_number _ R c.terms-answer-2.ensures.reply c.give_number-2.ensures)
