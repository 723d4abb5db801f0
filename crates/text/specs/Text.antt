-- Definitions. Bytes of text: blanks, digits, decimal numbers, numbers of three characters, and the lines of a file.
use Rattle.std.specs.Prelude.{ℕ, zero, suc, ◌+◌, ◌*◌, ◌-◌, ◌/◌, ◌%◌, min, Bool, true, false, ◌&&◌, cond, List, [], ◌∷◌, ◌++◌, eqb, leb, ltb, length, get_or, drop}
use Prim.Native.Char.{code}
use Prim.Native.String.{String}
use Prim.Native.String as S
use Rattle.reply.specs.Read.{if_else}

-- the bytes of a text in ASCII
abbrev pub ascii : String → List ℕ
ascii S.[] = []
ascii (S.◌∷◌ c s) = code c ∷ ascii s

-- line feed, carriage return, blank
abbrev pub feed : ℕ
feed = 10

abbrev pub carriage : ℕ
carriage = 13

abbrev pub blank : ℕ
blank = 32

abbrev pub is_blank : ℕ → Bool
is_blank b = eqb b blank

abbrev pub is_digit : ℕ → Bool
is_digit b = leb 48 b && leb b 57

-- what a digit says
abbrev pub digit : ℕ → ℕ
digit b = b - 48

-- the byte at a place, 0 past the end
abbrev pub character_at : List ℕ → ℕ → ℕ
character_at d at = get_or d at 0

-- Decimal numbers.
unfoldable pub all_digits : List ℕ → Bool
all_digits [] = true
all_digits (b ∷ bs) = is_digit b && all_digits bs

-- blanks, then at least one digit, and nothing else
unfoldable pub is_number : List ℕ → Bool
is_number [] = false
is_number (b ∷ bs) = cond (is_blank b) (is_number bs) (is_digit b && all_digits bs)

-- the value of digits that follow on others, whose value is v
unfoldable pub value_from : ℕ → List ℕ → ℕ
value_from v [] = v
value_from v (b ∷ bs) = value_from (10 * v + digit b) bs

-- the value of blanks, then digits
unfoldable pub number_of : List ℕ → ℕ
number_of [] = 0
number_of (b ∷ bs) = cond (is_blank b) (number_of bs) (value_from 0 (b ∷ bs))

-- Numbers as they are written. The digit that says n, of which only the last digit counts:
abbrev pub shown : ℕ → ℕ
shown n = 48 + n % 10

-- the decimal digits of a number that has at most f + 1 of them, with no leading zero
unfoldable pub decimal_in : ℕ → ℕ → List ℕ
decimal_in zero n = (48 + n) ∷ []
decimal_in (suc f) n = elim (ltb n 10) [ true ↦ (48 + n) ∷ [] | false ↦ decimal_in f (n / 10) ++ (shown n ∷ []) ]

-- of a number of 64 bits, which has at most 20
abbrev pub most_digits : ℕ
most_digits = 20

unfoldable pub decimal : ℕ → List ℕ
decimal n = decimal_in (most_digits - 1) n

-- a number below 1000 in three characters: blanks, then its digits
unfoldable pub three : ℕ → List ℕ
three n = cond (ltb n 100) blank (shown (n / 100)) ∷ cond (ltb n 10) blank (shown (n / 10)) ∷ shown n ∷ []

-- the three characters from a place on
abbrev pub three_at : List ℕ → ℕ → List ℕ
three_at d at = character_at d at ∷ character_at d (at + 1) ∷ character_at d (at + 2) ∷ []

-- Lines. One ends at a line feed or at the end of the file.
unfoldable pub until_feed : List ℕ → ℕ
until_feed [] = 0
until_feed (b ∷ bs) = if_else (eqb b feed) (λ _. 0) (λ _. suc (until_feed bs))

-- where the line ends that begins at a place: at its line feed or at the file's length
unfoldable pub line_end : List ℕ → ℕ → ℕ
line_end d at = at + until_feed (drop at d)

-- whether a carriage return stands directly before its line feed
unfoldable pub has_carriage : List ℕ → ℕ → Bool
has_carriage d at = ltb (line_end d at) (length d) && ltb at (line_end d at) && eqb (character_at d (line_end d at - 1)) carriage

-- how many characters it has: that carriage return is none
unfoldable pub line_chars : List ℕ → ℕ → ℕ
line_chars d at = line_end d at - at - cond (has_carriage d at) 1 0

-- where the next line begins: behind the line feed, or at the file's length
unfoldable pub next_line : List ℕ → ℕ → ℕ
next_line d at = min (line_end d at + 1) (length d)

-- where the k-th line after it begins
unfoldable pub later_line : List ℕ → ℕ → ℕ → ℕ
later_line d at zero = at
later_line d at (suc k) = next_line d (later_line d at k)

-- whether bytes begin with a word
unfoldable pub starts_with : List ℕ → List ℕ → Bool
starts_with [] xs = true
starts_with (w ∷ ws) [] = false
starts_with (w ∷ ws) (x ∷ xs) = eqb x w && starts_with ws xs

-- whether one of the lines of bytes begins with a word; at first a line begins, or one is gone on with
unfoldable pub line_starts : List ℕ → Bool → List ℕ → Bool
line_starts word begins [] = false
line_starts word begins (b ∷ bs) = if_else (begins && starts_with word (b ∷ bs)) (λ _. true) (λ _. line_starts word (eqb b feed) bs)
