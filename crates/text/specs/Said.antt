-- Definitions. How the code says what stands in a text.
use Rattle.std.specs.Prelude.{ℕ, cond, List}
use Rattle.text.specs.Text.{is_number, number_of, line_chars, next_line}
use Rattle.text.specs.declared.Line.{Line}

-- a number of three characters is below this; it stands for what is no number
abbrev pub no_number : ℕ
no_number = 1000

unfoldable pub field_number : List ℕ → ℕ
field_number xs = cond (is_number xs) (number_of xs) no_number

unfoldable pub line_at : List ℕ → ℕ → Line
line_at d at = record { chars = line_chars d at; next = next_line d at }
