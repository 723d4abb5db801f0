-- Laws. What a queue is told where it composes from records, sheets included, depends only on its own calls, and is what its blocks mean. Assumes nothing.
use Rattle.std.specs.Prelude.{ℕ, ◌≤◌, List, [], ◌∷◌, ◌≡◌, refl, length}
use Rattle.std.proofs.Common.{ap, arith}
use Rattle.reply.specs.Read.{Read}
use Rattle.block.specs.declared.Indices.{Indices}
use Rattle.records.specs.Records.{payload_at}
use Rattle.records.specs.declared.Sheet.{Sheet}
use Rattle.summary.specs.Layout.{summary_bytes}
use Rattle.summaries.specs.Composing.{composed_reply}
use Rattle.summaries.specs.Written.{written_reply}
use Rattle.queues.specs.Shelf.{places, number_in}
use Rattle.queues.specs.Table.{table_bytes, shelf, on_table, emptied}
use Rattle.queues.specs.Calls.{Sent, compose, sheet, own, table_answer, answers_to}
use Rattle.queues.specs.Model.{Entry, told_all}
use Rattle.queues.specs.Seeks.{taken_most}
use Rattle.queues.specs.Keeps.{AllProper, KeepsQueue, HonestTrade}
use Rattle.queues.proofs.OwnCalls.{own_calls_only, keeps_own}
use Rattle.queues.specs.declared.Queue.{Queue}
use Rattle.queues.specs.Blocks.{Block, book_in, summary_table, blocks}
use Rattle.queues.proofs.Alone.{tells_blocks}
use Rattle.gathered.specs.Gathered.{over_output, sheet_told}
use Rattle.gathered.specs.Orders.{Order, handed, ordered, record_table, record_blocks, table_left, blocks_left}
use Rattle.gathered.specs.Stacked.{HeldBlocks}

-- the promise of `compose` is what the table tells an order
pub order_told : (q : Queue) (t : List ℕ) (o : Order) → table_answer record_table q t (compose o) ≡ sheet (handed o (sheet_told t q o.sheet o.asked (length o.output)))
order_told q t o = refl

-- a shelf that keeps blocks for orders keeps them for payloads
same_proper : (q : List (Entry Block)) → AllProper record_table record_blocks q → AllProper summary_table blocks q
same_proper [] p = tt
same_proper (e ∷ q) p = (record { positive = p.0.positive; small = p.0.small; fine = p.0.fine }, same_proper q p.1)

pub same_keeps : (s : List ℕ) (q : List (Entry Block)) → KeepsQueue record_table record_blocks tells_blocks.wide s q → KeepsQueue summary_table blocks tells_blocks.wide s q
same_keeps s q k = record { stores = k.stores; proper = same_proper q k.proper }

kept_told : (s : List ℕ) (q : List (Entry Block)) → KeepsQueue record_table record_blocks tells_blocks.wide s q → (xs : List ℕ) → composed_reply s xs ≡ written_reply (book_in q) xs
kept_told s q k xs = tells_blocks.composed s q (same_keeps s q k) xs

-- THE BYTES SAY WHAT THE BLOCKS MEAN, for orders too
pub tells_orders : HonestTrade record_table record_blocks
tells_orders = record {
  wide = tells_blocks.wide;
  check = tells_blocks.check;
  fits = tells_blocks.fits;
  two = tells_blocks.two;
  number = tells_blocks.number;
  fields = tells_blocks.fields;
  composed = λ s q k o. ap (λ (m : Read Indices). handed o (ordered o m)) (kept_told s q k (payload_at o.asked 0));
}

-- WHAT A QUEUE IS TOLD DEPENDS ONLY ON ITS OWN CALLS since the table was made empty, where it composes from records and is handed sheets: whatever the table was and
-- whatever the other queue calls
pub sheets_alone : (q : Queue) (t : List ℕ) → table_bytes summary_bytes ≤ length t → (cs : List (Sent Block Order)) → answers_to record_table q (emptied summary_bytes t) cs ≡ told_all record_blocks [] (own q cs)
sheets_alone q t long cs = own_calls_only tells_orders q t long cs

-- after the calls of both its places hold its blocks, and composing is told by these
module _ (q : Queue) (t : List ℕ) (long : table_bytes summary_bytes ≤ length t) (cs : List (Sent Block Order)) where
  pub held : HeldBlocks (blocks_left q cs)
  unfolding tells_orders
  held =
      let k = keeps_own tells_orders q t long cs in
      record {
        proper = k.proper;
        apart = k.stores.apart;
        few = omega (arith, k.stores.count, taken_most (number_in summary_bytes (shelf summary_bytes q (table_left t cs))) places);
      }

  pub own_composed : (xs : List ℕ) → composed_reply (shelf summary_bytes q (table_left t cs)) xs ≡ written_reply (book_in (blocks_left q cs)) xs
  unfolding tells_orders
  own_composed xs = kept_told (shelf summary_bytes q (table_left t cs)) (blocks_left q cs) (keeps_own tells_orders q t long cs) xs

  pub own_told : (s : Sheet) (d : List ℕ) (n : ℕ) → sheet_told (table_left t cs) q s d n ≡ on_table summary_bytes (table_left t cs) (over_output s (written_reply (book_in (blocks_left q cs)) (payload_at d 0)) d n)
  own_told s d n = ap (λ (m : Read Indices). on_table summary_bytes (table_left t cs) (over_output s m d n)) (own_composed (payload_at d 0))
