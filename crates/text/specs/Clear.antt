-- Work. Bytes that a line goes on past.
use Rattle.std.specs.Prelude.{ℕ, ◌+◌, ◌<◌, ◌≡◌, List, get_or}
use Rattle.text.specs.Text.{feed}

-- no line feed is among n bytes from a place on
pub record Clear (d : List ℕ) (at n : ℕ) : Type 0 where
  pub none : (k : ℕ) → k < n → get_or d (at + k) 0 ≡ feed → ⊥
