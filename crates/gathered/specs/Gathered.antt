-- Definitions. Composing a sheet from a whole kind 2 record over the blocks that a queue holds, as if the record began a deck; and the order of its refusals.
use Rattle.std.specs.Prelude.{ℕ, List, [], ◌∷◌, ltb, length}
use Rattle.reply.specs.Read.{Read, read, ◌then◌, refuse_if}
use Rattle.block.specs.declared.Indices.{Indices}
use Rattle.records.specs.Records.{assembly_kind, payload_at, end_at, record_reply}
use Rattle.records.specs.declared.Sheet.{Sheet}
use Rattle.summary.specs.Layout.{summary_bytes}
use Rattle.summaries.specs.Composing.{composed_reply}
use Rattle.queues.specs.Table.{on_table}
use Rattle.queues.specs.declared.Queue.{Queue}
use Rattle.queues.specs.Queues.{own_places}
use Rattle.deck.specs.Deck.{longest_deck, moved, placement_place, end_reply}
use Rattle.sheets.specs.Sheets.{sheet_bytes}

-- what is told of a record, whose payload is told m, behind its head: m's refusal at the placement's first byte; 11 for what follows the record; then m's fields
unfoldable pub behind_head : Read Indices → List ℕ → Read Indices
behind_head m d =
    moved (placement_place 0) m then λ x.
    end_reply d (end_at d 0) then λ _.
    read x

-- 11, 12 and 13 of the record, then these
unfoldable pub over_record : Read Indices → List ℕ → Read Indices
over_record m d = record_reply (assembly_kind ∷ []) d 0 then λ _. behind_head m d

-- 20, then 9 where the output of n bytes is too short for a sheet of that kind, then the record's
unfoldable pub over_output : Sheet → Read Indices → List ℕ → ℕ → Read Indices
over_output s m d n =
    refuse_if (ltb longest_deck (length d)) 20 0 then λ _.
    refuse_if (ltb n (sheet_bytes s)) 9 0 then λ _.
    over_record m d

-- at the table: 9 where that is short, then these over the queue's places
abbrev pub sheet_told : List ℕ → Queue → Sheet → List ℕ → ℕ → Read Indices
sheet_told t q s d n = on_table summary_bytes t (over_output s (composed_reply (own_places t q) (payload_at d 0)) d n)
