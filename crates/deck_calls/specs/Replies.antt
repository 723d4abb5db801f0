-- Definitions. What each C function for a deck answers.
use Rattle.std.specs.Prelude.{ℕ, ◌+◌, ◌*◌, ◌%◌, List, Result, Ok, Err}
use Rattle.reply.specs.Read.{Read}
use Rattle.records.specs.declared.Sheet.{Sheet}
use Rattle.deck.specs.declared.Form.TheVariants.{Composed}
use Rattle.compose.specs.Fields.{fields_reply}
use Rattle.deck.specs.Placed.{placed_distance_reply}
use Rattle.judging.specs.declared.Verdict.{Verdict}
use Rattle.judging.specs.declared.Verdict.TheVariants as verdict
use Rattle.calls.specs.Convention.{most_place, code, number_list}
use Rattle.calls.specs.Blocks.{fields_list}
use Rattle.reply.specs.declared.Refusal.{Refusal}

-- a verdict: 0 for accepted, 255 for "differs" with the first wrong field
abbrev pub verdict_code : Verdict → ℕ
verdict_code (verdict.Refused r) = code r
verdict_code verdict.Accepted = 0
verdict_code (verdict.Differs k) = 255 + 256 * (k % most_place)

-- a sheet that is to be written
abbrev pub written_code : Result (Unit {0}) Refusal → ℕ
written_code (Err r) = code r
written_code (Ok tt) = 0

-- the fields of a sheet of a deck without one
abbrev pub composed_list : Sheet → List ℕ → Read (List ℕ)
composed_list s d = fields_list s (fields_reply Composed d)

-- the distance of two placed atoms
abbrev pub placed_list : List ℕ → ℕ → ℕ → ℕ → ℕ → Read (List ℕ)
placed_list d k i l j = number_list (placed_distance_reply d k i l j)
