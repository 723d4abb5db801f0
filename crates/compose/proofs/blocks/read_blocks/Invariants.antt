use Prim.Native.Nat.{suc, ◌-◌, ◌≤◌}
use mathlib.Core.Path.{◌≡◌}
use lib.ListN.{length, take, drop, replicate}
use Rattle.assembly.specs.Book.{no_block, most_blocks}
use Rattle.deck.specs.Deck.{blocks_from, blocks_reply}
use Rattle.deck.specs.Filled.{book_from, blocks_book}
use Rattle.compose.proofs.blocks.read_blocks.Given as goal

-- `compose::blocks::read_blocks` meets its contract. The loop's invariant: the answer and the book from the next record on are the answer and the book, and the places past `count` are empty. Assumes nothing.
abbrev pub invariant-loop-blocks : goal.invariant-loop-blocks
invariant-loop-blocks l =
    (l.next ≤ length l.d) × (l.count ≤ most_blocks) × (length l.blocks ≡ most_blocks) × (blocks_reply l.last l.d ≡ blocks_from (suc most_blocks - l.count) l.last l.d l.next (take l.count l.blocks))
    × (drop l.count l.blocks ≡ drop l.count (replicate most_blocks no_block)) × (length l.book ≡ length l.initial.book)
    × (blocks_book l.last l.d l.initial.book ≡ book_from (suc most_blocks - l.count) l.last l.d l.next (take l.count l.blocks) l.book)

abbrev pub decreases-loop-blocks : goal.decreases-loop-blocks
decreases-loop-blocks l = suc most_blocks - l.count
