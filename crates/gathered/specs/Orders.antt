-- Definitions. The table of the calls where composing goes by a whole record and hands a sheet out; and what its calls mean with no bytes.
use Rattle.std.specs.Prelude.{ℕ, List, [], length, Result}
use Rattle.reply.specs.Read.{Read}
use Rattle.block.specs.declared.Indices.{Indices}
use Rattle.records.specs.Records.{payload_at}
use Rattle.records.specs.declared.Sheet.{Sheet}
use Rattle.summary.specs.Layout.{summary_bytes}
use Rattle.summaries.specs.Composing.{composed_reply}
use Rattle.summaries.specs.Written.{written_reply}
use Rattle.queues.specs.Table.{emptied}
use Rattle.queues.specs.Calls.{Trade, Sent, own, table_all}
use Rattle.queues.specs.Model.{Entry, Meaning, left_all}
use Rattle.queues.specs.declared.Queue.{Queue}
use Rattle.queues.specs.Blocks.{Block, book_in, summary_table, blocks}
use Rattle.judging.specs.Judging.{said_sheet_written, sheet_out}
use Rattle.gathered.specs.Gathered.{over_output}
use Rattle.reply.specs.declared.Refusal.{Refusal}

-- what is asked: a sheet of a kind, from a record, into an output; and what is handed back, the reply and the output's bytes
pub record Order : Type 0 where
  pub sheet : Sheet
  pub asked : List ℕ
  pub output : List ℕ

pub record Handed : Type 0 where
  pub reply : Result (Unit {0}) Refusal
  pub bytes : List ℕ

abbrev pub handed : Order → Read Indices → Handed
handed o r = record { reply = said_sheet_written r; bytes = sheet_out o.sheet o.output r }

-- what an order is told whose record's payload is told m
abbrev pub ordered : Order → Read Indices → Read Indices
ordered o m = over_output o.sheet m o.asked (length o.output)

-- The table as `queues` has it, but for composing. At the table an order is told `sheet_told`.
abbrev pub record_table : Trade Block Indices Order Indices Handed
record_table = record {
  width = summary_table.width;
  check = summary_table.check;
  stored = summary_table.stored;
  fields_of = summary_table.fields_of;
  composed = λ s o. ordered o (composed_reply s (payload_at o.asked 0));
  said = handed;
}

-- an order over a queue's blocks is told by the molecule that its assembly writes out
abbrev pub told_blocks : List (Entry Block) → Order → Read Indices
told_blocks q o = ordered o (written_reply (book_in q) (payload_at o.asked 0))

abbrev pub record_blocks : Meaning Block Indices Order Handed
record_blocks = record {
  nothing = blocks.nothing;
  fine = blocks.fine;
  fields_of = blocks.fields_of;
  composed_of = λ q o. handed o (told_blocks q o);
}

-- the table after some calls of both queues since it was made empty, and the blocks that a queue's own calls leave it
abbrev pub table_left : List ℕ → List (Sent Block Order) → List ℕ
table_left t cs = table_all record_table (emptied summary_bytes t) cs

abbrev pub blocks_left : Queue → List (Sent Block Order) → List (Entry Block)
blocks_left q cs = left_all record_blocks [] (own q cs)
