-- Laws. The sheet that a queue is handed is the one that writing gives for the deck of its blocks and the record, and is accepted behind that deck. Assumes nothing.
use Rattle.std.specs.Prelude.{ℕ, ◌+◌, ◌*◌, ◌≤◌, true, List, [], ◌∷◌, ◌++◌, ◌≡◌, refl, ltb, length, take, Ok}
use Rattle.std.proofs.Common.{sym, ◌∙◌, ap, arith, length-append}
use borrow.Author.Tests.{le-ltb, ltb-false}
use Rattle.reply.specs.Read.{Read, refused, read, ◌then◌, refuse_if}
use Rattle.reply.specs.Chain.{not_read, then-read, if_read}
use Rattle.reply.specs.declared.Refusal.{Refusal}
use Rattle.block.specs.Block.{most_bytes}
use Rattle.block.specs.declared.Indices.{Indices}
use Rattle.records.specs.Records.{head_bytes, assembly_kind, length_at, kind_at, payload_at, end_at, record_reply}
use Rattle.records.specs.Taken.{of_first, of_one}
use Rattle.records.specs.declared.Sheet.{Sheet}
use Rattle.summary.specs.Layout.{summary_bytes}
use Rattle.summaries.specs.Composing.{composed_reply}
use Rattle.summaries.specs.Written.{written_reply}
use Rattle.assembly.specs.Placements.{assembly_reply}
use Rattle.assembly.specs.Sound.{whole}
use Rattle.records.specs.Stored.{little-part}
use Rattle.queues.specs.Table.{table_bytes, table_reply}
use Rattle.queues.specs.Calls.{Sent}
use Rattle.queues.specs.Model.{Entry, lookup, has}
use Rattle.queues.specs.Entries.{has_positive, has-number}
use Rattle.queues.specs.Keeps.{AllProper}
use Rattle.queues.specs.declared.Queue.{Queue}
use Rattle.queues.specs.Queues.{own_places}
use Rattle.queues.specs.Blocks.{Block, no_block, book_in}
use Rattle.deck.specs.Deck.{longest_deck, moved, placement_place, end_reply}
use Rattle.deck.specs.declared.Form.TheVariants.{Composed}
use Rattle.sheets.specs.Sheets.{sheet_bytes}
use Rattle.compose.specs.Fields.{fields_reply}
use Rattle.judging.specs.Judging.{judge_reply, said_verdict, sheet_write_reply, said_sheet_written, sheet_out}
use Rattle.judging.specs.Theorems.{sheet_made, written_accepted}
use Rattle.judging.specs.declared.Verdict.TheVariants as verdict
use Rattle.gathered.specs.Gathered.{behind_head, over_record, over_output, sheet_told}
use Rattle.gathered.specs.Orders.{Order, record_table, record_blocks, table_left, blocks_left}
use Rattle.gathered.specs.Stacked.{HeldBlocks, block_record, block_records, further}
use Rattle.gathered.specs.Alone.{held, own_composed, own_told}
use Rattle.gathered.specs.AsDeck.{few, size, as_deck}

-- the records of a queue's blocks are short
records_short : (q : List (Entry Block)) → AllProper record_table record_blocks q → length (block_records q) ≤ (10 + most_bytes) * length q
unfolding block_records
records_short [] p = omega arith
records_short (e ∷ q) p = omega (arith, length-append (block_record e) (block_records q), size e, few e p.0, records_short q p.1)

-- a queue that has a number holds something
holds_some : (q : List (Entry Block)) (x : ℕ) → has no_block q x ≡ true → 1 ≤ length q
unfolding lookup
holds_some [] x e = absurd (omega (arith, has_positive no_block [] x e, has-number no_block [] x e))
holds_some (f ∷ q) x e = omega arith

-- the payload of a record that is composed was fine
placed_fine : (place : Refusal → ℕ) (m : Read (Unit {0})) (x y : Indices) → moved place (m then λ _. read x) ≡ read y → m ≡ read tt
placed_fine place (refused r) x y e = absurd (not_read e)
placed_fine place (read u) x y e = refl

-- a record that is composed over a queue's blocks
module _ (q : List (Entry Block)) (h : HeldBlocks q) (d : List ℕ) (x : Indices) (e : over_record (written_reply (book_in q) (payload_at d 0)) d ≡ read x) where
  behind : (record_reply (assembly_kind ∷ []) d 0 ≡ read tt) × (behind_head (written_reply (book_in q) (payload_at d 0)) d ≡ read x)
  unfolding over_record
  behind = let (u, a, f) = then-read (record_reply (assembly_kind ∷ []) d 0) _ e in (a, f)

  placed : (assembly_reply (book_in q) (payload_at d 0) ≡ read tt) × (length d ≤ end_at d 0)
  unfolding behind_head written_reply end_reply
  placed =
      let (y, b, g) = then-read (moved (placement_place 0) (written_reply (book_in q) (payload_at d 0))) (λ x. end_reply d (end_at d 0) then λ _. read x) behind.1 in
      let (v, c, i) = then-read (end_reply d (end_at d 0)) _ g in
      (placed_fine (placement_place 0) (assembly_reply (book_in q) (payload_at d 0)) _ y b, ltb-false (end_at d 0) (length d) (if_read _ 11 (end_at d 0) c))

  some : 1 ≤ length q
  some = let w = whole (book_in q) (payload_at d 0) placed.0 in holds_some q _ (w.right.has 0 (omega (arith, w.count)))

  kind_is : kind_at d 0 ≡ 2
  kind_is = of_one d 0 assembly_kind behind.0

  record_short : length d ≤ 198
  record_short =
      let l = of_first d 0 assembly_kind [] behind.0 kind_is refl in
      let n = little-part 2 d head_bytes (length_at d 0) 0 (omega (arith, l)) in
      omega (arith, l, n, placed.1, (whole (book_in q) (payload_at d 0) placed.0).count)

  deck_short : length (block_records q ++ d) ≤ longest_deck
  deck_short = omega (arith, length-append (block_records q) d, records_short q h.proper, h.few, record_short)

  fields_are : fields_reply Composed (block_records q ++ d) ≡ read x
  fields_are = as_deck q h some d (λ z. omega (arith, z, kind_is)) deck_short ∙ ap (further (length (block_records q))) e

  sheet_is : (s : Sheet) (n : ℕ) → sheet_bytes s ≤ n → sheet_write_reply s (block_records q ++ d) n ≡ read x
  unfolding sheet_write_reply
  sheet_is s n l = rw (le-ltb longest_deck (length (block_records q ++ d)) deck_short, le-ltb n (sheet_bytes s) l) fields_are

-- THE SHEET OVER A QUEUE'S BLOCKS is the one that writing gives for the deck of the blocks, as records, and the record
pub same_sheet : (q : List (Entry Block)) → HeldBlocks q → (s : Sheet) (d : List ℕ) (n : ℕ) (x : Indices) → over_output s (written_reply (book_in q) (payload_at d 0)) d n ≡ read x → sheet_write_reply s (block_records q ++ d) n ≡ read x
unfolding over_output
same_sheet q h s d n x e =
    let (u, a, f) = then-read (refuse_if (ltb longest_deck (length d)) 20 0) _ e in
    let (v, b, g) = then-read (refuse_if (ltb n (sheet_bytes s)) 9 0) _ f in
    sheet_is q h d x g s n (ltb-false n (sheet_bytes s) (if_read _ 9 0 b))

-- After any calls of both queues since the table was made empty, with the deck of the blocks that a queue's own calls left and a record.
module _ (q : Queue) (t : List ℕ) (long : table_bytes summary_bytes ≤ length t) (cs : List (Sent Block Order)) (d : List ℕ) where
  abbrev records : List ℕ
  records = block_records (blocks_left q cs)

  -- THE RECORD IS TOLD WHAT THAT DECK IS, refusals included, its place counted behind the blocks
  pub queue_as_deck : 1 ≤ length (blocks_left q cs) → (kind_at d 0 ≡ 1 → ⊥) → length (records ++ d) ≤ longest_deck
      → fields_reply Composed (records ++ d) ≡ further (length records) (over_record (composed_reply (own_places (table_left t cs) q) (payload_at d 0)) d)
  queue_as_deck some other short =
      as_deck (blocks_left q cs) (held q t long cs) some d other short
      ∙ ap (λ (m : Read Indices). further (length records) (over_record m d)) (sym (own_composed q t long cs (payload_at d 0)))

  module _ (s : Sheet) (out : List ℕ) (made : said_sheet_written (sheet_told (table_left t cs) q s d (length out)) ≡ Ok tt) where
    -- A SHEET THAT IS HANDED OUT is byte for byte what writing gives for that deck
    pub queue_sheet : sheet_told (table_left t cs) q s d (length out) ≡ sheet_write_reply s (records ++ d) (length out)
    queue_sheet =
        let (x, e) = sheet_made (sheet_told (table_left t cs) q s d (length out)) made in
        let (u, a, f) = then-read (table_reply summary_bytes (table_left t cs)) _ (sym (own_told q t long cs s d (length out)) ∙ e) in
        e ∙ sym (same_sheet (blocks_left q cs) (held q t long cs) s d (length out) x f)

    -- AND IS ACCEPTED behind it
    pub queue_accepted : said_verdict (judge_reply ((records ++ d) ++ take (sheet_bytes s) (sheet_out s out (sheet_told (table_left t cs) q s d (length out))))) ≡ verdict.Accepted
    queue_accepted = rw queue_sheet (written_accepted s (records ++ d) out (sym (ap said_sheet_written queue_sheet) ∙ made))
