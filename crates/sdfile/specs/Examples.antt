-- Laws. Records and items of small texts, by computing.
use Rattle.std.specs.Prelude.{List, ◌++◌, ◌≡◌, refl, ℕ, Option, Some, None}
use Rattle.reply.specs.Read.{Read, refused, read, refusal}
use Rattle.text.specs.Text.{ascii, until_feed, line_end, has_carriage, line_chars, next_line, later_line, starts_with, line_starts, is_number, all_digits, number_of, value_from}
use Rattle.molfile.specs.Molfile.{in_turn, line_reply, numbers_reply, bond_reply, end_line_reply, lines_reply}
use Rattle.sdfile.specs.Sdf.{until_line, line_from, is_white, all_white, step_at, has_name, is_header, stands, has_tag, is_some_header, value_chars, opens_in, is_no_name, value_reply, item_reply}
use Rattle.sdfile.specs.declared.Span.{Span}
use Rattle.sdfile.specs.declared.Piece.{Piece}

abbrev pub piece : ℕ → ℕ → ℕ → Option Piece
piece a n b = Some (record { start = a; len = n; next = b })

unfoldable pub told : List ℕ → ℕ → Option Piece
unfolding step_at all_white is_white line_from until_line starts_with next_line line_end until_feed
told d from = step_at d from

abbrev pub at : ℕ → ℕ → Read Span
at a n = read (record { start = a; len = n })

unfoldable pub said : List ℕ → List ℕ → Read Span
unfolding item_reply is_no_name opens_in value_reply value_chars is_some_header has_tag stands is_header has_name line_from until_line starts_with next_line later_line line_chars has_carriage line_end until_feed line_starts is_number all_digits number_of value_from in_turn line_reply numbers_reply bond_reply end_line_reply lines_reply
said d name = item_reply d name

-- two records, the second with no line behind it; a line that has marks later on begins with none
abbrev pub two : List ℕ
two = ascii "ab\n$$$$\r\nc $$$$\nd"

pub two_records : (told two 0 ≡ piece 0 3 9) × (told two 9 ≡ piece 9 8 17) × (told two 17 ≡ None) × (told two 99 ≡ None)
unfolding told
two_records = (refl, refl, refl, refl)

-- a line that begins with marks may go on; a record may have no byte; white bytes behind the last one are none
abbrev pub empties : List ℕ
empties = ascii "$$$$ x\n$$$$\n \n$$$$\n\t\r\n "

pub empty_records : (told empties 0 ≡ piece 0 0 7) × (told empties 7 ≡ piece 7 0 12) × (told empties 12 ≡ piece 12 2 19) × (told empties 19 ≡ None)
unfolding told
empty_records = (refl, refl, refl, refl)

pub no_record : (told (ascii "") 0 ≡ None) × (told (ascii " \t\r\n") 0 ≡ None) × (told (ascii "\n\nx") 0 ≡ piece 0 3 3)
unfolding told
no_record = (refl, refl, refl)

-- a molfile of no atoms, as far as its bonds
abbrev pub front : List ℕ
front = ascii "\n\n\n  0  0\n"

-- items stand behind M  END; a CR is no character of a value; a header behind a header is no value
abbrev pub items : List ℕ
items = front ++ ascii "> <A>\nM  END\n>  <A> (1)\r\n12.5\r\n\r\n> 7 <B>\n\n> <C>\n1\n> <C>\n2\n> <E>\n><F> \n>5\n><D>"

pub values : (said items (ascii "A") ≡ at 35 4) × (said items (ascii "B") ≡ at 51 0) × (said items (ascii "D") ≡ at 87 0) × (said items (ascii "E") ≡ at 74 0) × (said items (ascii "F") ≡ at 80 2)
unfolding said
values = (refl, refl, refl, refl, refl)

pub none_or_two : (said items (ascii "") ≡ refused (refusal 38 0)) × (said items (ascii "a") ≡ refused (refusal 38 0)) × (said items (ascii "C") ≡ refused (refusal 39 60))
unfolding said
none_or_two = (refl, refl, refl)

-- with no M  END, or with other lines that are refused, there is no item; a header has > first, and its name whole and in its own line
pub no_item : (said (front ++ ascii "> <A>\n1\n") (ascii "A") ≡ refused (refusal 38 0))
    × (said (ascii "M  END\n> <A>\n1\n") (ascii "A") ≡ refused (refusal 38 0))
    × (said (front ++ ascii "M  END\n <A>\n1\n> <AB>\n2\n> <A\n>\n") (ascii "A") ≡ refused (refusal 38 0))
    × (said (front ++ ascii "M  END\n> <A\n>\n") (ascii "A\n") ≡ refused (refusal 38 0))
unfolding said
no_item = (refl, refl, refl, refl)

-- a title that says M  END is none: the lines behind it are the molfile's
pub forged : (said (ascii "M  END\n> <A>\n9\n  0  0\nM  END\n> <A>\n1\n") (ascii "A") ≡ at 35 1) × (said (ascii "M  END\n> <A>\n9\n  0  0\nM  END\n") (ascii "A") ≡ refused (refusal 38 0))
unfolding said
forged = (refl, refl)

-- a name may have sixteen < in it, and no more
pub openings : (said (front ++ ascii "M  END\n> <<<<<<<<<<<<<<<<<>\n1\n") (ascii "<<<<<<<<<<<<<<<<") ≡ at 38 1) × (said (front ++ ascii "M  END\n> <<<<<<<<<<<<<<<<<<>\n1\n") (ascii "<<<<<<<<<<<<<<<<<") ≡ refused (refusal 38 0))
unfolding said
openings = (refl, refl)
