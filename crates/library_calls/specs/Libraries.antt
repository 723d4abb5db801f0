-- Definitions. What the C functions for libraries answer: the library's reply, 254 for done, then 9 where the next position has no room.
use Rattle.std.specs.Prelude.{ℕ, List, [], ◌∷◌, ◌≡◌, ltb, length, Result, Ok, Err, Option, Some, None}
use Rattle.reply.specs.Read.{Read, refused, read, ◌then◌, refuse_if}
use Rattle.catalogue.specs.Products.{count_reply, Product, done, made}
use Rattle.calls.specs.Convention.{code, over, number_list}
use Rattle.reply.specs.declared.Refusal.{Refusal}

abbrev pub count_list : List ℕ → Read (List ℕ)
count_list d = number_list (count_reply d)

-- 9 where a product is made and there is no entry for the next position
abbrev pub with_next : ℕ → Read Product → Read Product
with_next entries (refused r) = refused r
with_next entries (read done) = read done
with_next entries (read (made x)) = refuse_if (ltb entries 1) 9 0 then λ _. read (made x)

-- 254 for done
abbrev pub step_code : Read Product → ℕ
step_code (refused r) = code r
step_code (read done) = 254
step_code (read (made x)) = 0

-- an output after the call: only where a product is made is it another one
abbrev pub made_out : List ℕ → Read Product → List ℕ → List ℕ
made_out new (refused r) old = old
made_out new (read done) old = old
made_out new (read (made x)) old = new

-- the same of what the library says
abbrev pub stepped_code : Result (Option ℕ) Refusal → ℕ
stepped_code (Err r) = code r
stepped_code (Ok None) = 254
stepped_code (Ok (Some n)) = 0

abbrev pub stepped_next : Result (Option ℕ) Refusal → List ℕ → List ℕ
stepped_next (Err r) old = old
stepped_next (Ok None) old = old
stepped_next (Ok (Some n)) old = over (n ∷ []) old

-- the reply to a step or a run that hands back a position, and both outputs after the call
pub record Walked (answer : Read Product) (wrote : List ℕ) (position : ℕ) (out next : List ℕ) (reply : ℕ) (out' next' : List ℕ) : Type 0 where
  pub replied : reply ≡ step_code (with_next (length next) answer)
  pub written : out' ≡ made_out wrote (with_next (length next) answer) out
  pub told : next' ≡ made_out (over (position ∷ []) next) (with_next (length next) answer) next
