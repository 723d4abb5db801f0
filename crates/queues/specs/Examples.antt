-- Laws. Worked examples, by computing: a table whose places hold one byte behind the number; composed is the sum of the bytes behind two numbers. Assumes nothing.
use Rattle.std.specs.Prelude.{ℕ, ◌+◌, ◌*◌, ◌/◌, ◌%◌, not, List, [], ◌∷◌, ◌≡◌, refl, ltb, replicate}
use Rattle.std.proofs.Common.{lit<}
use Rattle.reply.specs.Read.{Read, refused, read, ◌then◌, refuse_if, refusal}
use Rattle.records.specs.Bytes.{byte_at, little}
use Rattle.queues.specs.Shelf.{place_holding, holds, seek, held_by, room_reply, add_reply, added, look_reply, drop_reply, dropped}
use Rattle.queues.specs.Table.{zeroed, emptied}
use Rattle.queues.specs.Calls.{CallNumber, Trade, Call, add, look, drop, compose, done, fields, sheet, Sent, answers_to, table_all}
use Rattle.queues.specs.declared.Queue.TheVariants.{Day, Night}

abbrev bytes : Trade ℕ ℕ ℕ ℕ (Read ℕ)
bytes = record {
  width = 3;
  check = λ g. refuse_if (ltb 255 g) 1 0;
  stored = λ x g. (x % 256) ∷ (x / 256) ∷ g ∷ [];
  fields_of = λ l. byte_at l 2;
  composed = λ s x. refuse_if (not (holds 3 s x)) 16 0 then λ _. read (byte_at s (3 * place_holding 3 s x + 2) + 100);
  said = λ x r. r;
}

abbrev one : CallNumber
one = record { value = 1; small = lit< tt }

abbrev two : CallNumber
two = record { value = 258; small = lit< tt }

abbrev zero : CallNumber
zero = record { value = 0; small = lit< tt }

abbrev day : Call ℕ ℕ → Sent ℕ ℕ
day c = record { queue = Day; call = c }

abbrev night : Call ℕ ℕ → Sent ℕ ℕ
night c = record { queue = Night; call = c }

-- a table that was full of nines, made empty; longer than it must be
abbrev fresh : List ℕ
fresh = emptied 3 (replicate 50 9)

abbrev both : List (Sent ℕ ℕ)
both =
    day (add one 7) ∷ night (look 1) ∷ night (add one 200) ∷ day (add one 8) ∷ night (add two 5) ∷ day (look 1) ∷ night (compose 258) ∷ day (compose 258) ∷ day (drop 1)
    ∷ night (look 1) ∷ day (look 1) ∷ day (drop 1) ∷ night (add zero 3) ∷ night (add zero 256) ∷ []

-- day 1 and night 1 are two things
pub day_told : answers_to bytes Day fresh both
    ≡ done (read tt) ∷ done (refused (refusal 29 0)) ∷ fields (read 7) ∷ sheet (refused (refusal 16 0)) ∷ done (read tt) ∷ fields (refused (refusal 30 0)) ∷ done (refused (refusal 30 0)) ∷ []
unfolding answers_to little seek held_by room_reply add_reply added look_reply drop_reply dropped zeroed
day_told = refl

-- goods that are refused come before number 0
pub night_told : answers_to bytes Night fresh both
    ≡ fields (refused (refusal 30 0)) ∷ done (read tt) ∷ done (read tt) ∷ sheet (read 105) ∷ fields (read 200) ∷ done (refused (refusal 14 0)) ∷ done (refused (refusal 1 0)) ∷ []
unfolding answers_to little seek held_by room_reply add_reply added look_reply drop_reply dropped zeroed
night_told = refl

-- the table's bytes: the day queue's first place is dropped, the night queue's first two are taken, and two bytes behind the table stay
pub bytes_left : table_all bytes fresh both
    ≡ 0 ∷ 0 ∷ 7 ∷ 0 ∷ 0 ∷ 0 ∷ 0 ∷ 0 ∷ 0 ∷ 0 ∷ 0 ∷ 0 ∷ 0 ∷ 0 ∷ 0 ∷ 0 ∷ 0 ∷ 0 ∷ 0 ∷ 0 ∷ 0 ∷ 0 ∷ 0 ∷ 0
    ∷ 1 ∷ 0 ∷ 200 ∷ 2 ∷ 1 ∷ 5 ∷ 0 ∷ 0 ∷ 0 ∷ 0 ∷ 0 ∷ 0 ∷ 0 ∷ 0 ∷ 0 ∷ 0 ∷ 0 ∷ 0 ∷ 0 ∷ 0 ∷ 0 ∷ 0 ∷ 0 ∷ 0 ∷ 9 ∷ 9 ∷ []
unfolding table_all little seek held_by room_reply add_reply added look_reply drop_reply dropped zeroed
bytes_left = refl

-- eight are held: 29 comes before 28, and a dropped place is taken again
abbrev full : List ℕ
full = 1 ∷ 0 ∷ 10 ∷ 2 ∷ 0 ∷ 20 ∷ 3 ∷ 0 ∷ 30 ∷ 4 ∷ 0 ∷ 40 ∷ 5 ∷ 0 ∷ 50 ∷ 6 ∷ 0 ∷ 60 ∷ 7 ∷ 0 ∷ 70 ∷ 8 ∷ 0 ∷ 80 ∷ replicate 24 0

pub eight_held : answers_to bytes Day full (day (add one 7) ∷ day (add two 9) ∷ night (add two 1) ∷ day (drop 3) ∷ day (add two 9) ∷ day (look 258) ∷ [])
    ≡ done (refused (refusal 29 0)) ∷ done (refused (refusal 28 0)) ∷ done (read tt) ∷ done (read tt) ∷ fields (read 9) ∷ []
unfolding answers_to little seek held_by room_reply add_reply added look_reply drop_reply dropped
eight_held = refl

pub third_again : table_all bytes full (day (drop 3) ∷ day (add two 9) ∷ [])
    ≡ 1 ∷ 0 ∷ 10 ∷ 2 ∷ 0 ∷ 20 ∷ 2 ∷ 1 ∷ 9 ∷ 4 ∷ 0 ∷ 40 ∷ 5 ∷ 0 ∷ 50 ∷ 6 ∷ 0 ∷ 60 ∷ 7 ∷ 0 ∷ 70 ∷ 8 ∷ 0 ∷ 80 ∷ replicate 24 0
unfolding table_all little seek held_by room_reply add_reply added drop_reply dropped
third_again = refl

-- where less is stored than a place has room for, the bytes behind it stay
abbrev numbers : Trade ℕ ℕ ℕ ℕ (Read ℕ)
numbers = record {
  width = 3;
  check = λ g. read tt;
  stored = λ x g. (x % 256) ∷ (x / 256) ∷ [];
  fields_of = λ l. byte_at l 0;
  composed = λ s x. read 0;
  said = λ x r. r;
}

pub stays_behind : table_all numbers full (day (drop 3) ∷ day (add two 9) ∷ [])
    ≡ 1 ∷ 0 ∷ 10 ∷ 2 ∷ 0 ∷ 20 ∷ 2 ∷ 1 ∷ 30 ∷ 4 ∷ 0 ∷ 40 ∷ 5 ∷ 0 ∷ 50 ∷ 6 ∷ 0 ∷ 60 ∷ 7 ∷ 0 ∷ 70 ∷ 8 ∷ 0 ∷ 80 ∷ replicate 24 0
unfolding table_all little seek held_by room_reply add_reply added drop_reply dropped
stays_behind = refl

-- a short table
pub short : answers_to bytes Night (replicate 47 0) (night (add zero 256) ∷ day (look 1) ∷ night (look 1) ∷ [])
    ≡ done (refused (refusal 9 0)) ∷ fields (refused (refusal 9 0)) ∷ []
unfolding answers_to
short = refl
