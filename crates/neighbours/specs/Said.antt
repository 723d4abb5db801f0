-- Definitions. How the code says what a text gives.
use Rattle.std.specs.Prelude.{ℕ, List, length, Result}
use Rattle.reply.specs.Read.{Read, read, ◌then◌, as_result}
use Rattle.reply.specs.declared.Refusal.{Refusal}

-- a text's length
abbrev pub said_neighbours_written : Read (List ℕ) → Result ℕ Refusal
said_neighbours_written answer = as_result (answer then λ t. read (length t))
