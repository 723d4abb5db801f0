-- Definitions. How a C function replies. The reply is one number of 64 bits: the remainder by 256 is 0 for fine, a refusal's number, or 255 for "differs"; the
-- quotient is the refusal's place, or the first wrong field. What is answered besides goes to the front of a lent output.
use Rattle.std.specs.Prelude.{◌≡◌, ℕ, ◌+◌, ◌*◌, ◌%◌, ◌^◌, List, [], ◌∷◌, ◌++◌, ltb, length, drop, Result, Ok, Err}
use Rattle.reply.specs.Read.{Read, refused, read, ◌then◌, refuse_if, refusal}
use Rattle.reply.specs.declared.Counts.{Counts}
use Rattle.reply.specs.declared.Refusal.{Refusal}

-- the most that is kept of a place
abbrev pub most_place : ℕ
most_place = 2 ^ 56

abbrev pub code : Refusal → ℕ
code r = r.number % 256 + 256 * (r.place % most_place)

abbrev pub coded : {A : Type 0} → Read A → ℕ
coded (refused r) = code r
coded (read x) = 0

-- a reply that tells nothing but fine
abbrev pub reply_code : Result (Unit {0}) Refusal → ℕ
reply_code (Err r) = code r
reply_code (Ok tt) = 0

-- 9 at place 0 where the answer has more entries than are lent
abbrev pub fitting : {A : Type 0} → ℕ → Read (List A) → Read (List A)
fitting room answer = answer then λ xs. refuse_if (ltb room (length xs)) 9 0 then λ _. read xs

-- a lent output with new entries at its front: the later ones stay
abbrev pub over : {A : Type 0} → List A → List A → List A
over new old = new ++ drop (length new) old

-- a lent output after the call: a refusal changes nothing
abbrev pub out_after : {A : Type 0} → Read (List A) → List A → List A
out_after (refused r) old = old
out_after (read xs) old = over xs old

-- an answer that is one number, as it is lent out
abbrev pub number_list : Read ℕ → Read (List ℕ)
number_list answer = answer then λ n. read (n ∷ [])

-- one that is how many atoms and bonds there are
abbrev pub counts_list : Read Counts → Read (List ℕ)
counts_list answer = answer then λ c. read (c.atoms ∷ c.bonds ∷ [])

-- what a function that lends its answer out promises: its reply, and the output after the call
pub record Lent {A : Type 0} (answer : Read (List A)) (old : List A) (reply : ℕ) (new : List A) : Type 0 where
  pub replied : reply ≡ coded (fitting (length old) answer)
  pub lent : new ≡ out_after (fitting (length old) answer) old

-- an answer's refusal, and 9 at 0 where it has none
abbrev pub then_nine : {A : Type 0} → Read A → Read ℕ
then_nine (refused r) = refused r
then_nine (read x) = refused (refusal 9 0)
