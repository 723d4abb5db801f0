-- Definitions. What a queue holds, with no bytes: blocks under numbers; and what its calls are told.
use Rattle.std.specs.Prelude.{ℕ, List, []}
use Rattle.reply.specs.Read.{Read}
use Rattle.block.specs.Block.{graph_of, block_reply}
use Rattle.block.specs.Index.{indices_of}
use Rattle.block.specs.declared.Indices.{Indices}
use Rattle.assembly.specs.Book.{Book}
use Rattle.summary.specs.Layout.{summary_bytes, stored_fields}
use Rattle.summaries.specs.Composing.{composed_reply}
use Rattle.summaries.specs.Written.{written_reply}
use Rattle.queues.specs.Calls.{Trade}
use Rattle.queues.specs.Model.{Entry, lookup, has, Meaning}
use Rattle.queues.specs.Queues.{stored_block}

-- a block: its atom count and its bonds
pub record Block : Type 0 where
  pub atoms : ℕ
  pub bytes : List ℕ

abbrev pub no_block : Block
no_block = record { atoms = 0; bytes = [] }

abbrev pub block_in : List (Entry Block) → ℕ → Block
block_in q x = (lookup no_block q x).goods

-- the queue's blocks as a book
abbrev pub book_in : List (Entry Block) → Book
book_in q = record { has = has no_block q; graph = λ x. graph_of (block_in q x).atoms (block_in q x).bytes }

-- the table of the calls: a place holds a summary, and composing goes by an assembly's payload
abbrev pub summary_table : Trade Block Indices (List ℕ) Indices (Read Indices)
summary_table = record {
  width = summary_bytes;
  check = λ g. block_reply g.atoms g.bytes;
  stored = λ x g. stored_block x g.atoms g.bytes;
  fields_of = stored_fields;
  composed = composed_reply;
  said = λ xs r. r;
}

-- what its calls mean: the fields of a block; the fields of the molecule that an assembly of the queue's blocks writes out, or the assembly's refusal
abbrev pub blocks : Meaning Block Indices (List ℕ) (Read Indices)
blocks = record {
  nothing = no_block;
  fine = λ g. block_reply g.atoms g.bytes;
  fields_of = λ g. indices_of (graph_of g.atoms g.bytes);
  composed_of = λ q xs. written_reply (book_in q) xs;
}
