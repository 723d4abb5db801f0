use mathlib.Core.Bool.{false}
use mathlib.Core.Logic.{⊎_elim}
use mathlib.Core.Path.{◌≡◌, sym, ◌∙◌, ap}
use Rattle.std.specs.Prelude.{Err}
use Rattle.std.proofs.lemmas.Result.{err_from_is_err_and}
use native.Mathlib.Omega.{arith}
use Rattle.reply.specs.Read.{read}
use Rattle.deck.specs.Deck.{deck_reply}
use Rattle.deck.specs.Placed.{deck_of, is_missing}
use Rattle.deck.specs.declared.Form.TheVariants.{Composed}
use Rattle.deck.proofs.Parts.{deck_stopped}
use Rattle.deck.proofs.Reading.{deck-read}
use Rattle.compose.proofs.Distances.{reply-refused, reply_missing, book_far}
use Rattle.compose.proofs.distance.distance_in.Goals as goal
use Rattle.compose.proofs.distance.distance_in.Goals.{Else-is_missing-2, In_ok-read}

-- `compose::distance::distance_in` meets its contract: the deck's refusals, then 18, else the number over its book. Assumes nothing.
-- the deck that was read
told : (c : In_ok-read) → deck_reply Composed c.args.d.now ≡ read (deck_of c.read_in-read.result.layout)
told c = let r = c.read_in-read in deck-read (deck_reply Composed c.args.d.now) r.result r.ensures.reply c.in_ok-read.was

-- both atoms are there
one-there : (c : Else-is_missing-2) → let a = c.args in is_missing a.d.now (deck_of c.read_in-read.result.layout) a.k a.i ≡ false
one-there c = sym c.is_missing.ensures ∙ c.if-is_missing.false

two-there : (c : Else-is_missing-2) → let a = c.args in is_missing a.d.now (deck_of c.read_in-read.result.layout) a.l a.j ≡ false
two-there c = sym c.is_missing-else-is_missing.ensures ∙ c.if-is_missing-2.false

pub read_in-read-requires : goal.read_in-read-requires
read_in-read-requires c = c.requires

pub returns-then-is_missing : goal.returns-then-is_missing
returns-then-is_missing c =
    let a = c.args in
    let e = told (goal.at.returns-then-is_missing c).In_ok-read in
    ap Err c.at.ensures
    ∙ reply_missing a.d.now a.k a.i a.l a.j e
    (⊎_elim
    (λ w. rw (sym c.is_missing.ensures ∙ w.if-is_missing.true))
    (λ w. rw (sym c.is_missing.ensures ∙ w.if-is_missing.false, sym w.is_missing-else-is_missing.ensures ∙ w.if-is_missing-2.true))
    c.then-is_missing.branch-raw)

pub returns-in_err-read : goal.returns-in_err-read
returns-in_err-read c =
    let a = c.args in
    let r = c.read_in-read in
    let p = err_from_is_err_and c.from_residual.result c.from_residual.ensures.1 in
    rw (p.1, p.2) (reply-refused a.d.now a.k a.i a.l a.j (deck_stopped (deck_reply Composed a.d.now) r.result _ r.ensures.reply c.in_err-read.was))

pub returns : goal.returns
returns c =
    let a = c.args in
    let r = c.read_in-read in
    book_far a.d.now a.k a.i a.l a.j (told (goal.at.returns c).In_ok-read) (one-there (goal.at.returns c).Else-is_missing-2) (two-there (goal.at.returns c).Else-is_missing-2) (λ p. omega (arith, c.type_inv.d p)) a.book.now r.new.book c.requires
    r.ensures.bytes c.book-1.given _ c.payload_at.ensures.bytes c.far.result c.far.ensures
