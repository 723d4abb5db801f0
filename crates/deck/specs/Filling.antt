-- Work. A book after one block of a deck: filled where the block is not refused, and as it was where it is.
use Rattle.std.specs.Prelude.{ℕ, List, length}
use Rattle.block.specs.Block.{block_reply}
use Rattle.assembly.specs.Book.{bond_bytes}
use Rattle.assembly.specs.declared.BlockAt.{BlockAt}
use Rattle.deck.specs.Deck.{block_at, block_reply_at}
use Rattle.deck.specs.Filled.{with_block, after_fine}

-- by the block alone
unfoldable pub filled_book : List ℕ → List ℕ → ℕ → BlockAt → List ℕ
filled_book d b i c = after_fine (block_reply c.atoms (bond_bytes d c)) b (λ _. with_block d b i c)

-- by the block record at a place, after the blocks of `done`
unfoldable pub reply_book : List ℕ → ℕ → List BlockAt → List ℕ → List ℕ
reply_book d at done b = after_fine (block_reply_at d at done) b (λ _. with_block d b (length done) (block_at d at))
