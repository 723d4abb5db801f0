-- Definitions. The line that is printed for a reply, byte by byte: docs/RULES.md, "Numbers to check against".
use Rattle.std.specs.Prelude.{ℕ, ◌+◌, ◌*◌, ◌-◌, List, ◌++◌, length, replicate, Result, Ok, Err}
use Prim.Native.String.{String}
use Rattle.reply.specs.declared.Refusal.{Refusal}
use Rattle.block.specs.declared.Indices.{Indices}
use Rattle.deck.specs.declared.Form.{Form}
use Rattle.deck.specs.declared.Form.TheVariants.{Composed, Judged}
use Rattle.compose.specs.Fields.{fields_reply}
use Rattle.judging.specs.Judging.{judge_reply, said_verdict}
use Rattle.judging.specs.declared.Verdict.{Verdict}
use Rattle.judging.specs.declared.Verdict.TheVariants as verdict
use Rattle.text.specs.Text.{ascii, most_digits, decimal}
use Rattle.line.specs.declared.Line.{Line}
use Rattle.reply.specs.Read.{as_result}

-- a word, then a number
abbrev pub named : String → ℕ → List ℕ
named word n = ascii word ++ decimal n

-- the words name the sheet's fields
unfoldable pub indices_text : Indices → List ℕ
indices_text x = named "atoms " x.atoms ++ named " W " x.w ++ named " even " x.even ++ named " odd " x.odd ++ named " polarity " x.polarity ++ ascii "\n"

-- number, then place
unfoldable pub refusal_text : Refusal → List ℕ
refusal_text r = named "refused " r.number ++ named " at " r.place ++ ascii "\n"

abbrev pub measured_text : Result Indices Refusal → List ℕ
measured_text (Ok x) = indices_text x
measured_text (Err r) = refusal_text r

-- the first wrong field
unfoldable pub differs_text : ℕ → List ℕ
differs_text field = named "differs " field ++ ascii "\n"

abbrev pub verdict_text : Verdict → List ℕ
verdict_text verdict.Accepted = ascii "accepted\n"
verdict_text (verdict.Differs field) = differs_text field
verdict_text (verdict.Refused r) = refusal_text r

-- the whole answer to a deck: its molecule's five fields, or the verdict on its sheet
abbrev pub deck_text : Form → List ℕ → List ℕ
deck_text Composed d = measured_text (as_result (fields_reply Composed d))
deck_text Judged d = verdict_text (said_verdict (judge_reply d))

-- what is said of a deck that cannot be read
abbrev pub unread_text : List ℕ
unread_text = ascii "cannot be read\n"

-- a file that is longer than what is looked at
abbrev pub longer_text : List ℕ
longer_text = ascii "longer than 1048576 bytes\n"

-- The longest line: that of the five fields.
abbrev pub longest : ℕ
longest = 31 + 5 * most_digits

abbrev pub zeros : ℕ → List ℕ
zeros n = replicate n 0

-- a text of at most that many bytes as the code holds it: zeros follow it
unfoldable pub padded : List ℕ → List ℕ
padded t = t ++ zeros (longest - length t)

abbrev pub lined : List ℕ → Line
lined t = record { text = padded t; len = length t }
