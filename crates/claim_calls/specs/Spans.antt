-- Definitions. What the C functions for SDFs answer: where a record stands and the next one begins, and where a data item's value stands. Done is told as 254, which no refusal has.
use Rattle.std.specs.Prelude.{ℕ, List, [], ◌∷◌, Option, Some, None}
use Rattle.reply.specs.Read.{Read, refused, read, refusal, ◌then◌}
use Rattle.sdfile.specs.Sdf.{step_at, item_reply}
use Rattle.sdfile.specs.declared.Piece.{Piece}

abbrev pub step_list : Option Piece → Read (List ℕ)
step_list None = refused (refusal 254 0)
step_list (Some p) = read (p.start ∷ p.len ∷ p.next ∷ [])

abbrev pub record_list : List ℕ → ℕ → Read (List ℕ)
record_list d from = step_list (step_at d from)

abbrev pub item_list : List ℕ → List ℕ → Read (List ℕ)
item_list d name = item_reply d name then λ s. read (s.start ∷ s.len ∷ [])
