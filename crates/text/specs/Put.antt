-- Definitions. Words put into a lent output one after the other.
use Rattle.std.specs.Prelude.{ℕ, ◌+◌, ◌-◌, min, ◌≡◌, List, length}
use Rattle.std.proofs.lemmas.List.Edits.{sets}

-- a word is put from a place on, as far as there is room, and r is the place past what was put
pub record Puts (before : List ℕ) (at : ℕ) (word after : List ℕ) (r : ℕ) : Type 0 where
  pub bytes : after ≡ sets before at word
  pub end : r ≡ at + min (length word) (length before - at)
