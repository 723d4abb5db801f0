-- Laws. Two queues at one table of summaries: what a queue is told depends only on its own calls, and is what its blocks mean. Assumes nothing.
use Prim.Native.Nat.{ℕ, zero, suc, ◌*◌, ◌/◌, ◌≤◌, ◌<◌}
use Rattle.std.specs.Prelude.{Bool, ◌&&◌, not, List, [], ◌≡◌, eqb, length, take}
use Rattle.std.proofs.Math.Bool.{true, false, cond}
use Rattle.std.proofs.Math.Path.{refl, ap}
use Rattle.std.proofs.Common.{◌∙◌, arith, ne_eqb, lit≤}
use Rattle.std.proofs.Math.Dec.{ltb}
use Rattle.graph.specs.Graph.{Graph}
use Rattle.reply.specs.Read.{read}
use Rattle.block.specs.Block.{graph_of, block_reply}
use Rattle.block.specs.Index.{indices_of}
use Rattle.block.specs.Told.{molecule}
use Rattle.records.specs.Bytes.{little, le16, little_bytes}
use Rattle.summary.specs.Layout.{summary_bytes, stored_fields}
use Rattle.summary.specs.Summary.{head_of, summary_of}
use Rattle.summary.specs.Back.{length_summary, summary_fits, fields_told, summary_told, ends_told}
use Rattle.shelf.specs.Shelf.{summary_at, place_from, shelf_in, place_of as place_in}
use Rattle.summaries.specs.Composing.{composed_reply}
use Rattle.summaries.specs.Written.{written_reply, composed_written, HonestBook}
use Rattle.queues.specs.Shelf.{places, number_in, seek, held_by, holds, place_holding, look_reply}
use Rattle.queues.specs.Table.{table_bytes, shelf, emptied}
use Rattle.queues.specs.Calls.{Sent, own, answers_to, table_all}
use Rattle.queues.specs.Model.{Entry, has, told_look, told_all, left_all}
use Rattle.queues.specs.Entries.{has_positive}
use Rattle.queues.specs.Keeps.{KeepsQueue, HonestTrade}
use Rattle.queues.proofs.Kept.{proper_at, stands, same_look}
use Rattle.queues.proofs.OwnCalls.{own_calls_only, keeps_own}
use Rattle.queues.specs.declared.Queue.{Queue}
use Rattle.queues.specs.Queues.{stored_block}
use Rattle.queues.specs.Blocks.{Block, no_block, block_in, book_in, summary_table, blocks}

-- a summary begins with its number
number_stored : (x : ℕ) (g : Graph) → x < 65536 → le16 (summary_of x g) 0 ≡ x
unfolding summary_of head_of little_bytes little
number_stored x g h = omega arith

-- a shelf as a book
module _ (s : List ℕ) (size : length s ≡ summary_bytes * places) where
  same_seek : (x i left : ℕ) → place_from s x i left ≡ seek (number_in summary_bytes s) x i left
  unfolding place_from seek
  same_seek x i zero = refl
  same_seek x i (suc left) = go (eqb (le16 s (summary_bytes * i)) x) (same_seek x (suc i) left)
    where
      go : (t : Bool) → place_from s x (suc i) left ≡ seek (number_in summary_bytes s) x (suc i) left
          → elim t [ true ↦ i | false ↦ place_from s x (suc i) left ] ≡ cond t i (seek (number_in summary_bytes s) x (suc i) left)
      go true e = refl
      go false e = e

  eight : length s / summary_bytes ≡ places
  eight = rw size

  place_same : (x : ℕ) → 1 ≤ x → place_in s x ≡ place_holding summary_bytes s x
  unfolding place_in
  place_same x h = rw (ne_eqb x 0 (λ z. omega arith), eight) (same_seek x 0 places)

  has_same : (x : ℕ) → (shelf_in s).has x ≡ holds summary_bytes s x
  unfolding place_in held_by
  has_same x = rw eight (go (eqb x 0))
    where
      go : (t : Bool) → ltb (cond t places (place_from s x 0 places)) places ≡ (not t && ltb (seek (number_in summary_bytes s) x 0 places) places)
      go true = refl
      go false = ap (λ (k : ℕ). ltb k places) (same_seek x 0 places)

-- a queue's shelf tells its blocks
module _ (s : List ℕ) (q : List (Entry Block)) (k : KeepsQueue summary_table blocks (lit≤ tt) s q) where
  fine_at : (x : ℕ) → has no_block q x ≡ true → block_reply (block_in q x).atoms (block_in q x).bytes ≡ read tt
  fine_at x e = (proper_at summary_table blocks (lit≤ tt) k x e).fine

  there : (x : ℕ) → has no_block q x ≡ true → place_in s x ≡ place_holding summary_bytes s x
  there x e = place_same s k.stores.size x (has_positive no_block q x e)

  begins : (x : ℕ) → has no_block q x ≡ true → let b = stored_block x (block_in q x).atoms (block_in q x).bytes in take (length b) (summary_at s (place_in s x)) ≡ b
  begins x e = rw (there x e) (stands summary_table blocks (lit≤ tt) k x e)

  tells : HonestBook s (book_in q)
  tells = record {
    has = λ x. has_same s k.stores.size x ∙ k.stores.numbers x;
    molecules = λ x e. molecule (block_in q x).atoms (block_in q x).bytes (fine_at x e);
    told = λ x e. summary_told x (block_in q x).atoms (block_in q x).bytes (fine_at x e) (summary_at s (place_in s x)) (begins x e);
    ends = λ x a e w. ends_told x (block_in q x).atoms (block_in q x).bytes (fine_at x e) (summary_at s (place_in s x)) (begins x e) a w;
  }

-- THE BYTES SAY WHAT THE BLOCKS MEAN
pub tells_blocks : HonestTrade summary_table blocks
tells_blocks = record {
  wide = lit≤ tt;
  check = λ g. refl;
  fits = λ x g f. summary_fits x g.atoms g.bytes f;
  two = λ x g. omega (arith, length_summary (graph_of g.atoms g.bytes) x);
  number = λ x g h. number_stored x (graph_of g.atoms g.bytes) h;
  fields = λ x g b f e. fields_told x g.atoms g.bytes f b e;
  composed = λ s q k xs. composed_written s (book_in q) xs (tells s q k);
}

-- WHAT A QUEUE IS TOLD DEPENDS ONLY ON ITS OWN CALLS since the table was made empty, whatever the table was and whatever the other queue calls: the replies of the
-- functions and the table's bytes give it what a queue with no bytes gives its own calls
pub queue_alone : (q : Queue) (t : List ℕ) → table_bytes summary_bytes ≤ length t → (cs : List (Sent Block (List ℕ))) → answers_to summary_table q (emptied summary_bytes t) cs ≡ told_all blocks [] (own q cs)
queue_alone q t long cs = own_calls_only tells_blocks q t long cs

-- what it looks up are the fields of the block that it added
pub queue_fields : (q : Queue) (t : List ℕ) → table_bytes summary_bytes ≤ length t → (cs : List (Sent Block (List ℕ))) → let held = left_all blocks [] (own q cs) in (x : ℕ) → has no_block held x ≡ true
    → look_reply summary_bytes (shelf summary_bytes q (table_all summary_table (emptied summary_bytes t) cs)) stored_fields x ≡ read (indices_of (graph_of (block_in held x).atoms (block_in held x).bytes))
unfolding told_look
queue_fields q t long cs x h = same_look tells_blocks (keeps_own tells_blocks q t long cs) x ∙ rw h

-- what it composes are the fields of the molecule that the assembly of its own blocks writes out, or that assembly's refusal
pub queue_composes : (q : Queue) (t : List ℕ) → table_bytes summary_bytes ≤ length t → (cs : List (Sent Block (List ℕ))) (xs : List ℕ)
    → composed_reply (shelf summary_bytes q (table_all summary_table (emptied summary_bytes t) cs)) xs ≡ written_reply (book_in (left_all blocks [] (own q cs))) xs
queue_composes q t long cs xs = tells_blocks.composed (shelf summary_bytes q (table_all summary_table (emptied summary_bytes t) cs)) (left_all blocks [] (own q cs)) (keeps_own tells_blocks q t long cs) xs
