-- Work. A book of summaries that is filled from a deck's blocks: before, and when the first of them stand in it.
use Rattle.std.specs.Prelude.{ℕ, ◌*◌, ◌≤◌, ◌<◌, List, ◌≡◌, length, get_or, take}
use Rattle.reply.specs.Read.{read}
use Rattle.records.specs.Bytes.{le16}
use Rattle.block.specs.Block.{block_reply}
use Rattle.assembly.specs.Book.{most_blocks, no_block, bond_bytes, block_graph}
use Rattle.assembly.specs.declared.BlockAt.{BlockAt}
use Rattle.summary.specs.Layout.{summary_bytes}
use Rattle.summary.specs.Summary.{summary_of}
use Rattle.shelf.specs.Shelf.{summary_at}

-- the block at an index, and its summary
abbrev pub block_in : List BlockAt → ℕ → BlockAt
block_in bs i = get_or bs i no_block

abbrev pub summary_in : List ℕ → BlockAt → List ℕ
summary_in d c = summary_of c.number (block_graph d c)

-- blocks that are not refused, and room for them
pub record Blank (d : List ℕ) (bs : List BlockAt) (count : ℕ) (b : List ℕ) : Type 0 where
  pub few : count ≤ most_blocks
  pub fine : (i : ℕ) → i < count → block_reply (block_in bs i).atoms (bond_bytes d (block_in bs i)) ≡ read tt
  pub room : summary_bytes * count ≤ length b
  pub zero : (p : ℕ) → get_or b p 0 ≡ 0

-- place i holds a block
pub record HoldsBlock (d b : List ℕ) (i : ℕ) (c : BlockAt) : Type 0 where
  pub small : c.number < 65536
  pub begins : take (length (summary_in d c)) (summary_at b i) ≡ summary_in d c

-- the first k places hold the first k blocks, and no number stands behind them
pub record Booked (d : List ℕ) (bs : List BlockAt) (b : List ℕ) (k : ℕ) : Type 0 where
  pub holds : (i : ℕ) → i < k → HoldsBlock d b i (block_in bs i)
  pub empty : (i : ℕ) → k ≤ i → le16 b (summary_bytes * i) ≡ 0
