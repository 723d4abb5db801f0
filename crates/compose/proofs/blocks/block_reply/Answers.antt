use Prim.Native.Nat.{ℕ}
use mathlib.Core.List.{List}
use mathlib.Core.Path.{◌≡◌, sym, ap, ◌∙◌}
use native.Mathlib.Omega.{arith}
use lib.ListN.{length, take}
use lib.Seq.{length-take-le}
use borrow.Author.Rules.{rules}
use Rattle.reply.specs.Chain.{refused_read}
use Rattle.block.specs.Block.{block_reply}
use Rattle.assembly.specs.Book.{bond_bytes, most_blocks}
use Rattle.assembly.specs.declared.BlockAt.{BlockAt}
use Rattle.deck.specs.Deck.{block_at, block_place, unfit_after}
use Rattle.deck.specs.Filling.{filled_book}
use Rattle.deck.specs.Said.{moved_reply}
use Rattle.deck.proofs.Turns.{unfit, number_unfit, number_fit, moved_said, place_low}
use Rattle.deck.proofs.Filled.{reply_stays, reply_filled}
use Rattle.compose.proofs.blocks.block_reply.Goals as goal
use Rattle.compose.proofs.blocks.block_reply.Goals.{After-fill_at, After-is_unfit, Start}
use Rattle.std.specs.Prelude.{Err}
use Rattle.reply.specs.Read.{as_result}

-- `compose::blocks::block_reply` meets its contract. Assumes nothing.
abbrev done : Start → List BlockAt
done s = take s.args.count s.args.blocks

abbrev done-in-After-is_unfit : After-is_unfit → List BlockAt
done-in-After-is_unfit s = take s.args.count s.args.blocks

counted : (s : Start) → length (done s) ≡ s.args.count
counted s = let n : length s.args.blocks ≡ most_blocks = search rules in length-take-le s.args.count s.args.blocks (omega (arith, n, s.requires.0))

unfit-is : (c : After-is_unfit) → c.is_unfit.result ≡ unfit c.args.d.now c.args.at (done-in-After-is_unfit c)
unfit-is c = c.is_unfit.ensures ∙ ap (λ (b : BlockAt). unfit_after (done-in-After-is_unfit c) b.number) c.requires.1

-- what the block is told
told_is : (c : After-fill_at) → let b = block_at c.args.d.now c.args.at in
    c.fill_at.result ≡ as_result (block_reply b.atoms (bond_bytes c.args.d.now b))
told_is c = c.fill_at.ensures.reply ∙ ap (λ (b : BlockAt). as_result (block_reply b.atoms (bond_bytes c.args.d.now b))) c.requires.1

pub returns-then-is_unfit : goal.returns-then-is_unfit
returns-then-is_unfit c = let e = number_unfit c.args.d.now c.args.at (done (goal.at.returns-then-is_unfit c).Start) (sym (unfit-is (goal.at.returns-then-is_unfit c).After-is_unfit) ∙ c.if-is_unfit.true) in
    record { reply = ap Err c.at.ensures ∙ ap as_result (sym e); bytes = sym (reply_stays c.args.d.now c.args.at (done (goal.at.returns-then-is_unfit c).Start) c.args.book.now _ e) }

pub block_moved-requires : goal.block_moved-requires
block_moved-requires c = (c.requires.2, λ r q. omega (arith, c.requires.3, place_low c.args.d.now (block_at c.args.d.now c.args.at) r (refused_read _ r (sym (told_is (goal.at.block_moved-requires c).After-fill_at) ∙ q))))

pub returns : goal.returns
returns c =
    let d = c.args.d.now in
    let at = c.args.at in
    let b = block_at d at in
    let fit = sym (unfit-is (goal.at.returns c).After-is_unfit) ∙ c.if-is_unfit.false in record {
      reply = c.block_moved.ensures
          ∙ ap (moved_reply (block_place at)) (told_is (goal.at.returns c).After-fill_at)
          ∙ moved_said (block_place at) (block_reply b.atoms (bond_bytes d b))
          ∙ ap as_result (sym (number_fit d at (done (goal.at.returns c).Start) fit));
      bytes = c.fill_at.ensures.bytes
          ∙ ap (λ (x : BlockAt). filled_book d c.args.book.now c.args.count x) c.requires.1
          ∙ ap (λ (n : ℕ). filled_book d c.args.book.now n b) (sym (counted (goal.at.returns c).Start))
          ∙ reply_filled d at (done (goal.at.returns c).Start) c.args.book.now fit;
    }
