-- Laws. What the one number of a C reply about two queues at one table tells, with nothing assumed.
use Rattle.std.specs.Prelude.{ℕ, suc, ◌≤◌, not, List, [], ◌∷◌, eqb, ltb, length}
use Rattle.std.proofs.Common.{arith, ltb-false}
use Rattle.reply.specs.Read.{Read, read, refuse_if}
use Rattle.reply.specs.Chain.{if_read}
use Rattle.block.specs.Block.{block_reply}
use Rattle.records.specs.Records.{assembly_kind, payload_at, end_at, record_reply}
use Rattle.records.specs.Taken.{taken}
use Rattle.records.specs.declared.Sheet.{Sheet}
use Rattle.records.specs.declared.Sheet.TheVariants.{Six}
use Rattle.sheets.specs.Sheets.{fields_of, sheet_bytes}
use Rattle.assembly.specs.Placements.{most_placements, shelf_reply}
use Rattle.shelf.specs.Shelf.{shelf_in}
use Rattle.summaries.specs.Composing.{composed_reply}
use Rattle.deck.specs.Deck.{longest_deck, moved, placement_place, end_reply}
use Rattle.summary.specs.Layout.{summary_bytes, stored_fields as stored_fields}
use Rattle.queues.specs.Shelf.{places as eight, holds, place_holding, place_at, room_reply, add_reply, look_reply, drop_reply}
use Rattle.queues.specs.Table.{table_bytes, table_reply, on_table}
use Rattle.queues.specs.declared.Queue.{Queue}
use Rattle.queues.specs.Queues.{own_places, add_told, look_told, drop_told}
use Rattle.gathered.specs.Gathered.{behind_head, over_record, over_output, sheet_told}
use Rattle.calls.specs.Convention.{most_place, fitting}
use Rattle.queue_calls.specs.TwoQueues.{look_list}
use Rattle.told.specs.Bounded.{Bounded, then_bounded, if_bounded, record_bounded, shelf_bounded, moved_bounded, end_bounded}
use Rattle.told.specs.Recovered.{Tells, tells, block_here, listed, lent}

table_bounded : (t : List ℕ) → Bounded most_place (table_reply summary_bytes t)
table_bounded t = if_bounded most_place (ltb (length t) (table_bytes summary_bytes)) 9 0 (omega arith)

on_table_bounded : {A : Type 0} (t : List ℕ) (r : Read A) → Bounded most_place r → Bounded most_place (on_table summary_bytes t r)
on_table_bounded t r b = then_bounded most_place (table_reply summary_bytes t) _ (table_bounded t) (λ u e. b)

room_bounded : (s : List ℕ) (x : ℕ) → Bounded most_place (room_reply summary_bytes s x)
unfolding room_reply
room_bounded s x =
    then_bounded most_place (refuse_if (eqb x 0) 14 0) _ (if_bounded most_place (eqb x 0) 14 0 (omega arith)) (λ u e.
    then_bounded most_place (refuse_if (holds summary_bytes s x) 29 0) _ (if_bounded most_place (holds summary_bytes s x) 29 0 (omega arith)) (λ v f.
    if_bounded most_place (not (ltb (place_holding summary_bytes s 0) eight)) 28 0 (omega arith)))

add_bounded : (s : List ℕ) (x n : ℕ) (bs : List ℕ) → Bounded most_place (add_reply summary_bytes s x (block_reply n bs))
unfolding add_reply
add_bounded s x n bs = then_bounded most_place (block_reply n bs) _ (block_here n bs) (λ u e. room_bounded s x)

drop_bounded : (s : List ℕ) (x : ℕ) → Bounded most_place (drop_reply summary_bytes s x)
unfolding drop_reply
drop_bounded s x = if_bounded most_place (not (holds summary_bytes s x)) 30 0 (omega arith)

look_bounded : (s : List ℕ) (x : ℕ) → Bounded most_place (look_reply summary_bytes s stored_fields x)
unfolding look_reply
look_bounded s x =
    then_bounded most_place (refuse_if (not (holds summary_bytes s x)) 30 0) (λ _. read (stored_fields (place_at summary_bytes s (place_holding summary_bytes s x))))
    (if_bounded most_place (not (holds summary_bytes s x)) 30 0 (omega arith)) (λ u e. tt)

-- composing: a placement's first byte
composed_bounded : (s xs : List ℕ) → Bounded (suc most_placements) (composed_reply s xs)
unfolding composed_reply
composed_bounded s xs = then_bounded (suc most_placements) (shelf_reply (shelf_in s) xs) (λ _. read _) (shelf_bounded (shelf_in s) xs) (λ u e. tt)

output_bounded : (s : Sheet) (shelf d : List ℕ) (n : ℕ) → Bounded most_place (over_output s (composed_reply shelf (payload_at d 0)) d n)
unfolding over_output over_record behind_head
output_bounded s shelf d n =
    let xs = payload_at d 0 in
    let m = composed_reply shelf xs in
    then_bounded most_place (refuse_if (ltb longest_deck (length d)) 20 0) _ (if_bounded most_place (ltb longest_deck (length d)) 20 0 (omega arith)) (λ u e.
    let l : length d ≤ longest_deck = ltb-false longest_deck (length d) (if_read _ 20 0 e) in
    then_bounded most_place (refuse_if (ltb n (sheet_bytes s)) 9 0) _ (if_bounded most_place (ltb n (sheet_bytes s)) 9 0 (omega arith)) (λ v f.
    then_bounded most_place (record_reply (assembly_kind ∷ []) d 0) _ (record_bounded most_place (assembly_kind ∷ []) d 0 (omega arith)) (λ w g.
    let whole = (taken d 0 (assembly_kind ∷ []) g).whole in
    then_bounded most_place (moved (placement_place 0) m) _ (moved_bounded (suc most_placements) most_place (placement_place 0) m (λ r h. omega (arith, h)) (composed_bounded shelf xs)) (λ x h.
    then_bounded most_place (end_reply d (end_at d 0)) _ (end_bounded d l (end_at d 0) whole) (λ y k. tt)))))

-- FUNCTION BY FUNCTION
pub queue_empty_tells : (t : List ℕ) → Tells (table_reply summary_bytes t)
queue_empty_tells t = tells (table_reply summary_bytes t) (table_bounded t)

module _ (t : List ℕ) (q : Queue) (x : ℕ) where
  pub queue_add_tells : (n : ℕ) (bs : List ℕ) → Tells (add_told t q x n bs)
  queue_add_tells n bs = tells (add_told t q x n bs) (on_table_bounded t _ (add_bounded (own_places t q) x n bs))

  pub queue_look_tells : (room : ℕ) → Tells (fitting room (look_list t q x))
  queue_look_tells room = lent room (look_list t q x) (listed (look_told t q x) (fields_of Six) (on_table_bounded t _ (look_bounded (own_places t q) x)))

  pub queue_drop_tells : Tells (drop_told t q x)
  queue_drop_tells = tells (drop_told t q x) (on_table_bounded t _ (drop_bounded (own_places t q) x))

pub queue_compose_tells : (t : List ℕ) (q : Queue) (s : Sheet) (d : List ℕ) (n : ℕ) → Tells (sheet_told t q s d n)
queue_compose_tells t q s d n = tells (sheet_told t q s d n) (on_table_bounded t _ (output_bounded s (own_places t q) d n))
