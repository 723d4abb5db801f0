use mathlib.Core.Path.{sym, ap, ◌∙◌}
use Rattle.std.specs.Prelude.{Err}
use Rattle.reply.specs.declared.Refusal.{Refusal}
use Rattle.deck.specs.Said.{refused_deck, said_deck}
use Rattle.deck.proofs.Parts.{open_long, open_short}
use Rattle.deck.proofs.Filled.{book_long, book_short}
use Rattle.compose.proofs.blocks.open_deck.Goals as goal

-- `compose::blocks::open_deck` meets its contract. Assumes nothing.
pub returns-then-d-gt-LONGEST : goal.returns-then-d-gt-LONGEST
returns-then-d-gt-LONGEST c = let a = c.args in let h = c.if-d-gt-LONGEST.true in
    record { reply = c.deck_refused.ensures ∙ ap (λ (r : Refusal). refused_deck (Err r)) c.at.ensures ∙ ap said_deck (sym (open_long a.last a.d.now h)); bytes = sym (book_long a.last a.d.now a.book.now h) }

pub returns : goal.returns
returns c =
    let a = c.args in
    let e = c.read_blocks.ensures in
    record { reply = e.reply ∙ ap said_deck (sym (open_short a.last a.d.now c.if-d-gt-LONGEST.false)); bytes = e.bytes ∙ sym (book_short a.last a.d.now a.book.now c.if-d-gt-LONGEST.false) }
