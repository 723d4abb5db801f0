-- Definitions. What each call at the table is told, and the table's bytes after it. Each first 9 for a short table. A place holds a block's summary.
use Rattle.std.specs.Prelude.{ℕ, List}
use Rattle.reply.specs.Read.{Read}
use Rattle.block.specs.Block.{graph_of, block_reply}
use Rattle.block.specs.declared.Indices.{Indices}
use Rattle.summary.specs.Layout.{summary_bytes, stored_fields}
use Rattle.summary.specs.Summary.{summary_of}
use Rattle.summaries.specs.Composing.{composed_reply}
use Rattle.queues.specs.Shelf.{add_reply, added, look_reply, drop_reply, dropped}
use Rattle.queues.specs.Table.{shelf, on_table, table_after}
use Rattle.queues.specs.declared.Queue.{Queue}

-- the summary of a block under a number
abbrev pub stored_block : ℕ → ℕ → List ℕ → List ℕ
stored_block x n bs = summary_of x (graph_of n bs)

module _ (t : List ℕ) (q : Queue) where
  -- the queue's places
  abbrev pub own_places : List ℕ
  own_places = shelf summary_bytes q t

  -- adding: the block's refusals, 14, 29, 28
  abbrev pub add_told : ℕ → ℕ → List ℕ → Read (Unit {0})
  add_told x n bs = on_table summary_bytes t (add_reply summary_bytes own_places x (block_reply n bs))

  abbrev pub table_added : ℕ → ℕ → List ℕ → List ℕ
  table_added x n bs = table_after summary_bytes q t (added summary_bytes own_places x (block_reply n bs) (stored_block x n bs))

  -- looking up: 30, then the six fields
  abbrev pub look_told : ℕ → Read Indices
  look_told x = on_table summary_bytes t (look_reply summary_bytes own_places stored_fields x)

  -- dropping: 30
  abbrev pub drop_told : ℕ → Read (Unit {0})
  drop_told x = on_table summary_bytes t (drop_reply summary_bytes own_places x)

  abbrev pub table_dropped : ℕ → List ℕ
  table_dropped x = table_after summary_bytes q t (dropped summary_bytes own_places x)

  -- composing from an assembly's payload over the queue's places
  abbrev pub compose_told : List ℕ → Read Indices
  compose_told xs = on_table summary_bytes t (composed_reply own_places xs)
