-- Definitions. What a judged deck is told, and what is written into a buffer. Over the one graph with every atom and bond written out: no rule of composition.
use Rattle.std.specs.Prelude.{ℕ, zero, suc, List, ltb, length, Result, Ok, Err}
use Rattle.reply.specs.Read.{Read, refused, read, ◌then◌, refuse_if}
use Rattle.block.specs.declared.Indices.{Indices}
use Rattle.records.specs.Records.{sheet_at}
use Rattle.records.specs.declared.Sheet.{Sheet}
use Rattle.deck.specs.Deck.{longest_deck, deck_reply}
use Rattle.deck.specs.Molecule.{molecule_of}
use Rattle.deck.specs.declared.Form.TheVariants.{Composed, Judged}
use Rattle.sheets.specs.Sheets.{fields_of, sheet_of, claimed_at, sheet_bytes, sheet_put, first_wrong}
use Rattle.compose.specs.Fields.{fields_reply}
use Rattle.judging.specs.declared.Verdict.{Verdict}
use Rattle.judging.specs.declared.Verdict.TheVariants as verdict
use Rattle.reply.specs.declared.Refusal.{Refusal}

-- the first field of the claimed sheet that is not the molecule's, from 1 to as many as its kind has, or 0 for none
unfoldable pub judge_reply : List ℕ → Read ℕ
judge_reply d = deck_reply Judged d then λ k. read (first_wrong 1 (sheet_of (sheet_at d k.sheet) (molecule_of d k)) (claimed_at d k.sheet))

abbrev pub said_verdict : Read ℕ → Verdict
said_verdict (refused r) = verdict.Refused r
said_verdict (read zero) = verdict.Accepted
said_verdict (read (suc n)) = verdict.Differs (suc n)

-- 20, then 9 where the buffer of n bytes is too short for a sheet of that kind, then the deck's refusals
unfoldable pub sheet_write_reply : Sheet → List ℕ → ℕ → Read Indices
sheet_write_reply s d n =
    refuse_if (ltb longest_deck (length d)) 20 0 then λ _.
    refuse_if (ltb n (sheet_bytes s)) 9 0 then λ _.
    fields_reply Composed d

abbrev pub said_sheet_written : Read Indices → Result (Unit {0}) Refusal
said_sheet_written (refused r) = Err r
said_sheet_written (read x) = Ok tt

-- the buffer afterwards
abbrev pub sheet_out : Sheet → List ℕ → Read Indices → List ℕ
sheet_out s out (refused r) = out
sheet_out s out (read x) = sheet_put s out (fields_of s x)
