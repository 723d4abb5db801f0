-- Laws. What records are told, computed: of a placement of a block that no queue holds, of bytes that follow, of another kind, of nothing, and in which order.
use Rattle.std.specs.Prelude.{ℕ, ◌<◌, List, [], ◌∷◌, ◌++◌, ◌≡◌, refl, length, replicate}
use Rattle.std.proofs.Common.{lt-ltb}
use Rattle.reply.specs.Read.{Read, refused, read, refusal}
use Rattle.block.specs.declared.Indices.{Indices}
use Rattle.records.specs.Bytes.{little}
use Rattle.records.specs.Records.{kind_reply, is_wrong, length_reply, record_reply}
use Rattle.records.specs.declared.Sheet.{Sheet}
use Rattle.records.specs.declared.Sheet.TheVariants.{Five, Six}
use Rattle.summary.specs.Layout.{summary_bytes}
use Rattle.queues.specs.Table.{table_bytes}
use Rattle.queues.specs.declared.Queue.{Queue}
use Rattle.deck.specs.Deck.{end_reply}
use Rattle.gathered.specs.Gathered.{behind_head, over_record, over_output, sheet_told}

-- one placement of block 1
abbrev lone : List ℕ
lone = 8 ∷ 0 ∷ 2 ∷ 0 ∷ 1 ∷ 0 ∷ 1 ∷ 0 ∷ 0 ∷ 0 ∷ 0 ∷ 0 ∷ []

abbrev six : Indices
six = record { atoms = 6; w = 27; even = 12; odd = 15; polarity = 3; largest = 3 }

abbrev nobody : Read Indices
nobody = refused (refusal 16 1)

-- 16 stands at the placement's first byte
pub not_held : over_record nobody lone ≡ refused (refusal 16 6)
unfolding over_record behind_head record_reply kind_reply length_reply is_wrong little
not_held = refl

pub taken_whole : over_record (read six) lone ≡ read six
unfolding over_record behind_head record_reply kind_reply length_reply is_wrong end_reply little
taken_whole = refl

-- 11 for a byte that follows stands behind the record, and comes last
pub byte_follows : (over_record (read six) (lone ++ 0 ∷ []) ≡ refused (refusal 11 12)) × (over_record nobody (lone ++ 0 ∷ []) ≡ refused (refusal 16 6))
unfolding over_record behind_head record_reply kind_reply length_reply is_wrong end_reply little
byte_follows = (refl, refl)

-- nothing, another kind, another length
pub nothing_there : over_record (read six) [] ≡ refused (refusal 11 0)
unfolding over_record record_reply little
nothing_there = refl

pub other_kind : over_record (read six) (8 ∷ 0 ∷ 1 ∷ 0 ∷ 1 ∷ 0 ∷ 1 ∷ 0 ∷ 0 ∷ 0 ∷ 0 ∷ 0 ∷ []) ≡ refused (refusal 12 0)
unfolding over_record record_reply kind_reply little
other_kind = refl

pub other_length : over_record (read six) (8 ∷ 0 ∷ 2 ∷ 0 ∷ 2 ∷ 0 ∷ 1 ∷ 0 ∷ 0 ∷ 0 ∷ 0 ∷ 0 ∷ []) ≡ refused (refusal 13 0)
unfolding over_record record_reply kind_reply length_reply is_wrong little
other_length = refl

-- 9 for an output of 43 bytes and a sheet of six, before the record's; a sheet of five has room there
pub output_first : (over_output Six nobody lone 43 ≡ refused (refusal 9 0)) × (over_output Five nobody lone 43 ≡ refused (refusal 16 6))
unfolding over_output over_record behind_head record_reply kind_reply length_reply is_wrong little
output_first = (refl, refl)

-- 20 before 9
pub length_first : over_output Five nobody (replicate 32769 0) 0 ≡ refused (refusal 20 0)
unfolding over_output
length_first = refl

-- 9 for the table before all
pub table_first : (t : List ℕ) (q : Queue) (s : Sheet) (d : List ℕ) (n : ℕ) → length t < table_bytes summary_bytes → sheet_told t q s d n ≡ refused (refusal 9 0)
table_first t q s d n short = rw (lt-ltb (length t) (table_bytes summary_bytes) short)
