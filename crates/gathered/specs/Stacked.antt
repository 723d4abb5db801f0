-- Definitions. A queue's blocks as the records of a deck.
use Rattle.std.specs.Prelude.{ℕ, ◌+◌, ◌/◌, ◌≤◌, List, [], ◌∷◌, ◌++◌, length}
use Rattle.reply.specs.Read.{Read}
use Rattle.records.specs.Bytes.{little_bytes}
use Rattle.deck.specs.Deck.{moved}
use Rattle.queues.specs.Shelf.{places}
use Rattle.queues.specs.Model.{Entry}
use Rattle.queues.specs.Entries.{Apart}
use Rattle.queues.specs.Keeps.{AllProper}
use Rattle.queues.specs.Blocks.{Block, no_block}
use Rattle.gathered.specs.Orders.{record_table, record_blocks}

-- what a queue may hold: at most eight blocks that are not refused, each under its own number
pub record HeldBlocks (q : List (Entry Block)) : Type 0 where
  pub proper : AllProper record_table record_blocks q
  pub apart : Apart no_block q
  pub few : length q ≤ places

-- payload length, kind 1, block number, n, bond count, bonds
unfoldable pub block_record : Entry Block → List ℕ
block_record e =
    let xs = e.goods.bytes in
    little_bytes 2 (6 + length xs) ++ (little_bytes 2 1 ++ (little_bytes 2 e.number ++ (little_bytes 2 e.goods.atoms ++ (little_bytes 2 (length xs / 2) ++ xs))))

unfoldable pub block_records : List (Entry Block) → List ℕ
block_records [] = []
block_records (e ∷ q) = block_record e ++ block_records q

-- an answer whose place is counted from further on
abbrev pub further : {A : Type 0} → ℕ → Read A → Read A
further n m = moved (λ r. n + r.place) m
