use native.Mathlib.Omega.{arith}
use Rattle.ranking_calls.specs.Unlent.{ranks_lacking, ranks_told}
use Rattle.ranking_calls.proofs.best.Goals as goal

-- `ranking_calls::best` meets its contract. Assumes nothing.
pub returns-then-held-lt1 : goal.returns-then-held-lt1
returns-then-held-lt1 c =
    let a = c.args in
    ranks_lacking a.deck.now a.field a.greatest a.tag a.best.now a.held.now (omega (arith, c.if-held-lt1.true)) _ c.unlent.ensures

pub returns : goal.returns
returns c =
    let a = c.args in
    let b = c.best-told.ensures in
    let w = c.wants.ensures in
    let some = c.if-held-lt1.false in
    ranks_told a.deck.now a.field a.greatest a.tag a.best.now a.held.now (omega (arith, some)) _ w _ _ _ _ b.reply b.numbers c.give_number.ensures
