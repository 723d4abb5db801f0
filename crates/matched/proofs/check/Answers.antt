use mathlib.Core.Path.{◌≡◌, ◌∙◌, ap}
use native.Mathlib.Omega.{arith}
use Rattle.std.specs.Prelude.{Err}
use Rattle.std.proofs.lemmas.Result.{err_from_is_err_and}
use Rattle.reply.specs.Read.{read}
use Rattle.deck.specs.Deck.{deck_reply}
use Rattle.deck.specs.declared.Form.TheVariants.{Composed}
use Rattle.deck.specs.Placed.{deck_of}
use Rattle.deck.proofs.Parts.{deck_stopped}
use Rattle.deck.proofs.Reading.{deck-read}
use Rattle.matched.specs.Replies.{match_refused, match_short, match_answered}
use Rattle.matched.proofs.check.Goals as goal
use Rattle.matched.proofs.check.Goals.{In_ok-read}

-- `matched::check` meets its contract: the deck's refusals, then 9, else what comparing gives. Assumes nothing.
-- the deck that was read
fine : (c : In_ok-read) → deck_reply Composed c.args.d.now ≡ read (deck_of c.read_deck-read.result.layout)
fine c = deck-read (deck_reply Composed c.args.d.now) c.read_deck-read.result c.read_deck-read.ensures c.in_ok-read.was

pub returns-then-matching-atoms : goal.returns-then-matching-atoms
returns-then-matching-atoms c = let a = c.args in ap Err c.at.ensures ∙ match_short a.d.now a.atoms a.bonds.now a.matching.now (fine (goal.at.returns-then-matching-atoms c).In_ok-read) (omega (arith, c.if-matching-atoms.true))

pub answer-requires : goal.answer-requires
answer-requires c = (fine (goal.at.answer-requires c).In_ok-read, omega (arith, c.if-matching-atoms.false))

pub returns-in_err-read : goal.returns-in_err-read
returns-in_err-read c =
    let a = c.args in
    let r = c.read_deck-read in
    let p = err_from_is_err_and c.from_residual.result c.from_residual.ensures.1 in
    rw (p.1, p.2) (match_refused a.d.now a.atoms a.bonds.now a.matching.now (deck_stopped (deck_reply Composed a.d.now) r.result _ r.ensures c.in_err-read.was))

pub returns : goal.returns
returns c = let a = c.args in c.answer.ensures ∙ match_answered a.d.now a.atoms a.bonds.now a.matching.now (fine (goal.at.returns c).In_ok-read) (omega (arith, c.if-matching-atoms.false))
