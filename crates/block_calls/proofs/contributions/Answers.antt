use mathlib.Core.Path.{refl, ◌∙◌}
use native.Mathlib.Omega.{arith}
use lib.ListN.{length}
use Rattle.shares.specs.Reply.{shares_reply}
use Rattle.shares.proofs.Reply.{reply-refused}
use Rattle.calls.proofs.Laws.{lent_number}
use Rattle.block_calls.proofs.Both.{block_lacking, block_given, shares_lent}
use Rattle.block_calls.proofs.contributions.Goals as goal

-- `block_calls::contributions` meets its contract.
pub returns-then-denominator-lt1 : goal.returns-then-denominator-lt1
returns-then-denominator-lt1 c =
    let a = c.args in
    block_lacking a.atoms a.bonds.now (shares_reply a.atoms a.bonds.now (length a.shares.now)) _ a.shares.now a.denominator.now c.unlent.result (omega arith) (c.unlent.ensures, refl)

pub returns : goal.returns
returns c =
    let a = c.args in
    let R = shares_reply a.atoms a.bonds.now (length a.shares.now) in
    block_given a.atoms a.bonds.now R _ a.shares.now a.denominator.now (λ r e. reply-refused a.atoms a.bonds.now (length a.shares.now) e) (omega arith)
    (c.contributions-answer.ensures.entries ∙ shares_lent a.atoms a.bonds.now a.shares.now) (lent_number _ R c.contributions-answer.ensures.reply c.give_number.ensures)
