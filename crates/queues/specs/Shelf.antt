-- Definitions. A shelf: the bytes of one queue's eight places. What stands at a place begins with a number; a place is empty where that is 0.
use Rattle.std.specs.Prelude.{ℕ, zero, suc, ◌*◌, Bool, ◌&&◌, not, cond, List, [], ◌∷◌, eqb, ltb}
use Rattle.std.proofs.lemmas.List.Edits.{sets}
use Rattle.reply.specs.Read.{Read, refused, read, ◌then◌, refuse_if}
use Rattle.records.specs.Bytes.{le16, part}

-- the places of a queue
abbrev pub places : ℕ
places = 8

-- the first place from k on, of `left` places, that has the number x; the place behind them where none has it
unfoldable pub seek : (ℕ → ℕ) → ℕ → ℕ → ℕ → ℕ
seek g x k zero = k
seek g x k (suc left) = cond (eqb (g k) x) k (seek g x (suc k) left)

abbrev pub place_by : (ℕ → ℕ) → ℕ → ℕ
place_by g x = seek g x 0 places

-- whether k, where the search for x ended, is a place that has it: 0 is no block's number
abbrev pub is_held : ℕ → ℕ → Bool
is_held x k = not (eqb x 0) && ltb k places

unfoldable pub held_by : (ℕ → ℕ) → ℕ → Bool
held_by g x = is_held x (place_by g x)

-- what a refusal keeps
abbrev pub unless : {A B : Type 0} → Read A → B → B → B
unless (refused r) old new = old
unless (read a) old new = new

-- of a place that is dropped the number becomes 0
abbrev pub zero_number : List ℕ
zero_number = 0 ∷ 0 ∷ []

-- places of w bytes
module _ (w : ℕ) (s : List ℕ) where
  abbrev pub number_in : ℕ → ℕ
  number_in k = le16 s (w * k)

  abbrev pub place_holding : ℕ → ℕ
  place_holding x = place_by number_in x

  abbrev pub holds : ℕ → Bool
  holds x = held_by number_in x

  -- adding what is told r: its refusal, 14 for number 0, 29, 28; it goes into the first empty place
  unfoldable pub room_reply : ℕ → Read (Unit {0})
  room_reply x =
      refuse_if (eqb x 0) 14 0 then λ _.
      refuse_if (holds x) 29 0 then λ _.
      refuse_if (not (ltb (place_holding 0) places)) 28 0

  unfoldable pub add_reply : ℕ → Read (Unit {0}) → Read (Unit {0})
  add_reply x r = r then λ _. room_reply x

  unfoldable pub added : ℕ → Read (Unit {0}) → List ℕ → List ℕ
  added x r new = unless (add_reply x r) s (sets s (w * place_holding 0) new)

  -- the bytes of a place
  abbrev pub place_at : ℕ → List ℕ
  place_at k = part s (w * k) w

  -- looking up: 30, then what the bytes of the place say
  unfoldable pub look_reply : {F : Type 0} → (List ℕ → F) → ℕ → Read F
  look_reply fields_of x = refuse_if (not (holds x)) 30 0 then λ _. read (fields_of (place_at (place_holding x)))

  -- dropping: 30; the place has number 0 then
  unfoldable pub drop_reply : ℕ → Read (Unit {0})
  drop_reply x = refuse_if (not (holds x)) 30 0

  unfoldable pub dropped : ℕ → List ℕ
  dropped x = unless (drop_reply x) s (sets s (w * place_holding x) zero_number)
