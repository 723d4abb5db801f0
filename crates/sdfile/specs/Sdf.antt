-- Definitions. An SDF: records one after the other, each behind it a line that begins with `$$$$`; and the data items of a record. Lines are those of crate `text`. Places are bytes, counted from 0.
use Rattle.std.specs.Prelude.{ℕ, suc, ◌+◌, ◌-◌, Bool, true, false, ◌&&◌, ◌||◌, cond, List, [], ◌∷◌, ◌++◌, eqb, leb, ltb, length, take, drop, Option, Some, None}
use Rattle.reply.specs.Read.{Read, read, ◌then◌, refuse_if, if_else}
use Rattle.text.specs.Text.{ascii, feed, carriage, blank, until_feed, next_line, line_chars, starts_with}
use Rattle.molfile.specs.Molfile.{end_word, rest_of}
use Rattle.sdfile.specs.declared.Span.{Span}
use Rattle.sdfile.specs.declared.Piece.{Piece}

-- LINES. How many bytes stand before the first line that a test holds of, all of them where it holds of none.
-- The test is asked of the bytes from a line's first one on. At first a line begins, or one is gone on with.
unfoldable pub until_line : (List ℕ → Bool) → Bool → List ℕ → ℕ
until_line test begins [] = 0
until_line test begins (b ∷ bs) = if_else (begins && test (b ∷ bs)) (λ _. 0) (λ _. suc (until_line test (eqb b feed) bs))

-- where that line begins, from a place on where a line begins
unfoldable pub line_from : (List ℕ → Bool) → List ℕ → ℕ → ℕ
line_from test d at = at + until_line test true (drop at d)

-- RECORDS. The line behind a record begins with this
abbrev pub marks : List ℕ
marks = ascii "$$$$"

-- blank, tab, CR or LF
abbrev pub tab : ℕ
tab = 9

unfoldable pub is_white : ℕ → Bool
is_white b = eqb b blank || eqb b tab || eqb b carriage || eqb b feed

unfoldable pub all_white : List ℕ → Bool
all_white [] = true
all_white (b ∷ bs) = is_white b && all_white bs

-- where the record ends that begins at a place: where the first line with marks begins, or at the text's end
abbrev pub record_end : List ℕ → ℕ → ℕ
record_end d from = line_from (starts_with marks) d from

-- the record that begins at a place: the next one begins behind the line with marks. None where only white bytes are left
unfoldable pub step_at : List ℕ → ℕ → Option Piece
step_at d from =
    if_else
    (all_white (drop from d))
    (λ _. None)
    (λ _. Some (record { start = from; len = record_end d from - from; next = next_line d (record_end d from) }))

-- ITEMS. They stand behind the molfile's own M  END, the first line behind its bonds that begins so; there are none where the molfile's lines are refused
abbrev pub items_from : List ℕ → ℕ
items_from d = next_line d (line_from (starts_with end_word) d (rest_of d))

-- whether a word stands somewhere in bytes
unfoldable pub has_name : List ℕ → List ℕ → Bool
has_name word [] = false
has_name word (b ∷ bs) = if_else (starts_with word (b ∷ bs)) (λ _. true) (λ _. has_name word bs)

abbrev pub tagged : List ℕ → List ℕ
tagged name = ascii "<" ++ name ++ ascii ">"

-- a header line begins with > and has <NAME> somewhere in it
unfoldable pub is_header : List ℕ → List ℕ → Bool
is_header name xs = starts_with (ascii ">") xs && has_name (tagged name) (take (until_feed xs) xs)

-- the first header of a name from a place on
abbrev pub header_from : List ℕ → List ℕ → ℕ → ℕ
header_from d name at = line_from (is_header name) d at

abbrev pub header_one : List ℕ → List ℕ → ℕ
header_one d name = header_from d name (items_from d)

-- a header of some name: it begins with > and has a < in it and, behind that, a >
unfoldable pub stands : ℕ → List ℕ → Bool
stands c [] = false
stands c (b ∷ bs) = if_else (eqb b c) (λ _. true) (λ _. stands c bs)

abbrev pub opens : ℕ
opens = 60

abbrev pub closes : ℕ
closes = 62

unfoldable pub has_tag : List ℕ → Bool
has_tag [] = false
has_tag (b ∷ bs) = if_else (eqb b opens) (λ _. stands closes bs) (λ _. has_tag bs)

unfoldable pub is_some_header : List ℕ → Bool
is_some_header xs = starts_with (ascii ">") xs && has_tag (take (until_feed xs) xs)

-- how many characters the value has that is the line at a place: none where that is missing or a header itself
unfoldable pub value_chars : List ℕ → ℕ → ℕ
value_chars d at = cond (is_some_header (drop at d)) 0 (line_chars d at)

-- the value stands at a place, behind a header; 39 at a second header
unfoldable pub value_reply : List ℕ → List ℕ → ℕ → Read Span
value_reply d name at =
    refuse_if (ltb (header_from d name at) (length d)) 39 (header_from d name at) then λ _.
    read (record { start = at; len = value_chars d at })

-- how many < a name has, and the most that it may have: at each of them looking for it may begin anew, so with any number of them it could take the square of the bytes
unfoldable pub opens_in : List ℕ → ℕ
opens_in [] = 0
opens_in (b ∷ bs) = cond (eqb b opens) 1 0 + opens_in bs

abbrev pub most_opens : ℕ
most_opens = 16

unfoldable pub is_no_name : List ℕ → Bool
is_no_name name = eqb (length name) 0 || ltb most_opens (opens_in name)

-- 38 where there is no name or no header of it
unfoldable pub item_reply : List ℕ → List ℕ → Read Span
item_reply d name =
    refuse_if (is_no_name name) 38 0 then λ _.
    refuse_if (leb (length d) (header_one d name)) 38 0 then λ _.
    value_reply d name (next_line d (header_one d name))
