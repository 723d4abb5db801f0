-- Work. Numbers as bytes.
use Rattle.std.specs.Prelude.{ℕ, ◌%◌}

-- the last byte of a number
abbrev pub low : ℕ → ℕ
low x = x % 256
