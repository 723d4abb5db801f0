use Prim.Native.Nat.{ℕ}
use mathlib.Core.List.{List}
use mathlib.Core.Path.{ap, ◌∙◌}
use Rattle.block.specs.Block.{block_reply}
use Rattle.deck.proofs.Filled.{no_place, place_reply, place_filled}
use Rattle.compose.proofs.blocks.fill_at.Goals as goal
use Rattle.reply.specs.Read.{as_result}

-- `compose::blocks::fill_at` meets its contract. Assumes nothing.
pub returns-then-book-end : goal.returns-then-book-end
returns-then-book-end c =
    let a = c.args in record { reply = c.check.ensures ∙ ap (λ (xs : List ℕ). as_result (block_reply a.b.atoms xs)) c.bonds_part-bonds.ensures.bytes; bytes = no_place a.d.now a.b a.book.now a.i c.if-book-end.true }

pub returns : goal.returns
returns c =
    let a = c.args in
    let bonds = c.bonds_part-bonds.ensures.bytes in
    let f = c.fill.ensures in record { reply = f.reply ∙ ap as_result (place_reply a.d.now a.b a.book.now a.i c.if-book-end.false _ bonds); bytes = place_filled a.d.now a.b a.book.now a.i c.if-book-end.false _ bonds _ f.bytes }
