-- Laws. The queues of blocks, after any calls of both since the table was made empty, over what the calls promise: what is told of an addition, a look-up and a drop;
-- the sheet, against the deck of the queue's blocks in any order; and when a sheet behind that deck is accepted. Assumes nothing.
use Rattle.std.specs.Prelude.{ℕ, ◌+◌, ◌≤◌, ◌<◌, true, false, ◌&&◌, not, List, ◌++◌, ◌↔◌, ◌≡◌, refl, eqb, ltb, leb, length}
use Rattle.std.proofs.Math.Path.{sym, ap, fun_ext}
use Rattle.std.proofs.Common.{◌∙◌, arith}
use Rattle.reply.specs.Read.{Read, read, refuse_if}
use Rattle.reply.specs.Chain.{then-read}
use Rattle.block.specs.Block.{graph_of, block_reply}
use Rattle.block.specs.Index.{indices_of}
use Rattle.block.specs.declared.Indices.{Indices}
use Rattle.records.specs.Records.{head_bytes, payload_at}
use Rattle.records.specs.declared.Sheet.{Sheet}
use Rattle.records.specs.declared.Sheet.TheVariants.{Five, Six}
use Rattle.assembly.specs.Book.{Book}
use Rattle.summary.specs.Layout.{summary_bytes}
use Rattle.summaries.specs.Written.{written_reply}
use Rattle.queues.specs.Shelf.{places}
use Rattle.queues.specs.Table.{table_bytes, table_reply, on_table}
use Rattle.queues.specs.Calls.{add, look, drop, Answer, done, fields, sheet, Sent}
use Rattle.queues.specs.Model.{Entry, lookup, has, without, told_add, told_look, told_drop}
use Rattle.queues.specs.declared.Queue.{Queue}
use Rattle.queues.specs.Queues.{add_told, look_told, drop_told, table_dropped}
use Rattle.queues.specs.Blocks.{Block, no_block, book_in}
use Rattle.deck.specs.Deck.{longest_deck, Deck, deck_reply}
use Rattle.deck.specs.Molecule.{molecule_of}
use Rattle.deck.specs.Sized.{longest_composed, composed_short}
use Rattle.deck.specs.Followed.{IsSheet}
use Rattle.deck.specs.declared.Form.TheVariants.{Composed}
use Rattle.sheets.specs.Sheets.{fields_of, widths, fields_at, sheet_of, sheet_bytes}
use Rattle.compose.specs.Fields.{fields_reply}
use Rattle.judging.specs.Judging.{judge_reply, said_verdict, sheet_write_reply, sheet_out}
use Rattle.judging.specs.declared.Verdict.TheVariants.{Accepted}
use Rattle.gathered.specs.Gathered.{over_output, sheet_told}
use Rattle.gathered.specs.Orders.{Order, Handed, record_blocks, table_left, blocks_left}
use Rattle.gathered.specs.Stacked.{HeldBlocks, block_records}
use Rattle.gathered.specs.Alone.{tells_orders, held, own_told}
use Rattle.gathered.specs.Accepted.{same_sheet}
use Rattle.renumbered.proofs.DecksLaws.{behind_exactly}
use Rattle.written_out.specs.Histories.{next_told, room_exactly_eight, room_after_drop}

-- what an answer says of a call that is done, and of one that reads
abbrev done_in : {F T : Type 0} → Answer F T → Read (Unit {0})
done_in (done r) = r
done_in (fields r) = read tt
done_in (sheet r) = read tt

abbrev fields_in : {F T : Type 0} → Answer F T → Read F → Read F
fields_in (done r) other = other
fields_in (fields r) other = r
fields_in (sheet r) other = other

-- the same blocks under the same numbers, in whichever order
pub record SameBlocks (p q : List (Entry Block)) : Type 0 where
  pub under : (x : ℕ) → lookup no_block p x ≡ lookup no_block q x

abbrev book_by : (ℕ → Entry Block) → Book
book_by f = record { has = λ x. not (eqb x 0) && eqb (f x).number x; graph = λ x. graph_of (f x).goods.atoms (f x).goods.bytes }

same_book : (p q : List (Entry Block)) → SameBlocks p q → book_in p ≡ book_in q
unfolding has
same_book p q s = ap book_by (fun_ext s.under)

-- a sheet of either kind has room behind a deck that composes
room_behind : (kind : Sheet) (m n : ℕ) → m ≤ longest_composed → n ≡ sheet_bytes kind → m + n ≤ longest_deck
room_behind Five m n a b = omega arith
room_behind Six m n a b = omega arith

-- writing that writes has read the deck
composed_of : (s : Sheet) (d : List ℕ) (n : ℕ) (x : Indices) → sheet_write_reply s d n ≡ read x → (k : Deck) × (deck_reply Composed d ≡ read k) × (indices_of (molecule_of d k) ≡ x)
unfolding sheet_write_reply fields_reply
composed_of s d n x p =
    let (u, a, f) = then-read (refuse_if (ltb longest_deck (length d)) 20 0) _ p in
    let (v, b, g) = then-read (refuse_if (ltb n (sheet_bytes s)) 9 0) _ f in
    let (k, e, i) = then-read (deck_reply Composed d) (λ k. read (indices_of (molecule_of d k))) g in
    (k, e, cc)

module _ (q : Queue) (t : List ℕ) (long : table_bytes summary_bytes ≤ length t) (cs : List (Sent Block Order)) where
  abbrev now : List ℕ
  now = table_left t cs

  abbrev own : List (Entry Block)
  own = blocks_left q cs

  -- WHAT EACH CALL IS TOLD, over its promise: by the blocks that the queue's own calls left it, and nothing else
  pub queue_adds : (x n : ℕ) (bs : List ℕ) → x < 65536 → add_told now q x n bs ≡ told_add record_blocks own x (record { atoms = n; bytes = bs })
  queue_adds x n bs small = ap done_in (next_told tells_orders q t long cs (add (record { value = x; small = small }) (record { atoms = n; bytes = bs })))

  pub queue_looks : (x : ℕ) → look_told now q x ≡ told_look record_blocks own x
  queue_looks x = ap (λ (a : Answer Indices Handed). fields_in a (look_told now q x)) (next_told tells_orders q t long cs (look x))

  pub queue_drops : (x : ℕ) → drop_told now q x ≡ told_drop record_blocks own x
  queue_drops x = ap done_in (next_told tells_orders q t long cs (drop x))

  -- 28 EXACTLY WHEN IT HOLDS EIGHT, where no earlier test refuses
  pub queue_room : (x n : ℕ) (bs : List ℕ) → x < 65536 → block_reply n bs ≡ read tt → 1 ≤ x → has no_block own x ≡ false
      → add_told now q x n bs ≡ refuse_if (leb places (length own)) 28 0
  queue_room x n bs small fine positive new =
      ap done_in (room_exactly_eight tells_orders q t long cs (record { value = x; small = small }) (record { atoms = n; bytes = bs }) fine positive new)

  -- A DROPPED PLACE IS USED AGAIN: after a block was dropped there is room
  pub queue_room_again : (x y n : ℕ) (bs : List ℕ) → has no_block own x ≡ true → y < 65536 → block_reply n bs ≡ read tt → 1 ≤ y → has no_block (without own x) y ≡ false
      → add_told (table_dropped now q x) q y n bs ≡ read tt
  queue_room_again x y n bs there small fine positive new =
      ap done_in (room_after_drop tells_orders q t long cs x there (record { value = y; small = small }) (record { atoms = n; bytes = bs }) fine positive new)

  -- THE DECK OF THE QUEUE'S BLOCKS, IN ANY ORDER, and a record: a sheet that is handed out is byte for byte what writing gives for it, and accepted behind it
  module _ (p : List (Entry Block)) (fit : HeldBlocks p) (same : SameBlocks p own) (d : List ℕ) (s : Sheet) (n : ℕ) (x : Indices) (told : sheet_told now q s d n ≡ read x) where
    abbrev deck : List ℕ
    deck = block_records p ++ d

    pub sheet_any_order : sheet_write_reply s deck n ≡ read x
    sheet_any_order =
        let over : sheet_told now q s d n ≡ on_table summary_bytes now (over_output s (written_reply (book_in p) (payload_at d 0)) d n)
        = own_told q t long cs s d n ∙ ap (λ (b : Book). on_table summary_bytes now (over_output s (written_reply b (payload_at d 0)) d n)) (sym (same_book p own same)) in
        let (u, a, f) = then-read (table_reply summary_bytes now) _ (sym over ∙ told) in
        same_sheet p fit s d n x f

    pub bytes_any_order : (out : List ℕ) → sheet_out s out (sheet_told now q s d n) ≡ sheet_out s out (sheet_write_reply s deck n)
    bytes_any_order out = ap (sheet_out s out) (told ∙ sym sheet_any_order)

    -- A SHEET BEHIND THAT DECK, of whichever kind and whoever wrote it, IS ACCEPTED IF AND ONLY IF it claims what the queue is told
    pub queue_exactly : (kind : Sheet) (c : List ℕ) → IsSheet kind c → (said_verdict (judge_reply (deck ++ c)) ≡ Accepted) ↔ (fields_at (widths kind) c head_bytes ≡ fields_of kind x)
    unfolding sheet_of
    queue_exactly kind c i =
        let (k, e, f) = composed_of s deck n x sheet_any_order in
        let there = behind_exactly deck k e c i (room_behind kind (length deck) (length c) (composed_short deck k e) i.size) in
        (λ a. there.0 a ∙ ap (fields_of kind) f, λ b. there.1 (b ∙ sym (ap (fields_of kind) f)))

  -- the order in which the calls left them is one
  pub own_order : HeldBlocks own × SameBlocks own own
  own_order = (held q t long cs, record { under = λ x. refl })
