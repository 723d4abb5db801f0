-- Laws. Lines and numbers of small texts, by computing.
use Rattle.std.specs.Prelude.{true, false, ◌≡◌, refl}
use Rattle.text.specs.Text.{ascii, all_digits, is_number, value_from, number_of, decimal_in, decimal, three, until_feed, line_end, has_carriage, line_chars, next_line}

-- a CR before a line feed is no character of its line; one at the end of the file is
pub carriage_left_out : line_chars (ascii "ab\r\ncd\r") 0 ≡ 2
unfolding line_chars has_carriage line_end until_feed
carriage_left_out = refl

pub carriage_at_the_end : line_chars (ascii "ab\r\ncd\r") 4 ≡ 3
unfolding line_chars has_carriage line_end until_feed
carriage_at_the_end = refl

pub second_line : next_line (ascii "ab\r\ncd\r") 0 ≡ 4
unfolding next_line line_end until_feed
second_line = refl

-- blanks, then at least one digit
pub six : (is_number (ascii " 06") ≡ true) × (number_of (ascii " 06") ≡ 6)
unfolding is_number all_digits number_of value_from
six = (refl, refl)

pub no_six : (is_number (ascii "6  ") ≡ false) × (is_number (ascii "   ") ≡ false) × (is_number (ascii "+ 6") ≡ false)
unfolding is_number all_digits
no_six = (refl, refl, refl)

pub written : (decimal 192 ≡ ascii "192") × (decimal 0 ≡ ascii "0") × (three 64 ≡ ascii " 64")
unfolding decimal decimal_in three
written = (refl, refl, refl)
