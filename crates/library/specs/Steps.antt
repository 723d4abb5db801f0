-- Definitions. A library's sheets: a step writes the sheet of the product at a position, a run is the steps one after the other.
use Rattle.std.specs.Prelude.{ℕ, zero, suc, List, ◌++◌, ltb, length, drop, Result, Ok, Err, Option, Some, None}
use Rattle.reply.specs.Read.{Read, refused, read, ◌then◌, refuse_if}
use Rattle.records.specs.declared.Sheet.{Sheet}
use Rattle.deck.specs.Deck.{longest_deck}
use Rattle.sheets.specs.Sheets.{fields_of, sheet_record, sheet_bytes, sheet_put}
use Rattle.catalogue.specs.Products.{Product, done, made, product_reply}
use Rattle.reply.specs.declared.Refusal.{Refusal}

-- A step at a position: 20, 9 where the buffer of n bytes is too short, then the library's refusals.
unfoldable pub step_reply : Sheet → List ℕ → ℕ → ℕ → Read Product
step_reply s d position n =
    refuse_if (ltb longest_deck (length d)) 20 0 then λ _.
    refuse_if (ltb n (sheet_bytes s)) 9 0 then λ _.
    product_reply d position

-- the buffer afterwards: only a product that is made has a sheet
abbrev pub step_out : Sheet → List ℕ → Read Product → List ℕ
step_out s out (refused r) = out
step_out s out (read done) = out
step_out s out (read (made x)) = sheet_put s out (fields_of s x)

-- how the code says it, with the position that is handed back
abbrev pub said_step : ℕ → Read Product → Result (Option ℕ) Refusal
said_step next (refused r) = Err r
said_step next (read done) = Ok None
said_step next (read (made x)) = Ok (Some next)

-- what comes of a run: the next position, and the buffer
pub record Ran : Type 0 where
  pub next : ℕ
  pub out : List ℕ

-- a sheet before what comes of the rest
abbrev pub behind : List ℕ → Ran → Ran
behind bytes r = record { next = r.next; out = bytes ++ r.out }

-- after a step at a position: its sheet and what follows, or nothing more
abbrev pub after_step : Sheet → ℕ → List ℕ → Read Product → (ℕ → List ℕ → Ran) → Ran
after_step s position out (refused r) more = record { next = position; out = out }
after_step s position out (read done) more = record { next = position; out = out }
after_step s position out (read (made x)) more = behind (sheet_record s (fields_of s x)) (more (suc position) (drop (sheet_bytes s) out))

-- A run: steps from a position on, at most so many, each into what the one before left of the buffer, until there is no room or no product.
unfoldable pub steps_from : ℕ → Sheet → List ℕ → ℕ → List ℕ → Ran
steps_from zero s d position out = record { next = position; out = out }
steps_from (suc k) s d position out = after_step s position out (step_reply s d position (length out)) (steps_from k s d)

-- a buffer has no room for more sheets than it has bytes
abbrev pub run_of : Sheet → List ℕ → ℕ → List ℕ → Ran
run_of s d position out = steps_from (length out) s d position out
