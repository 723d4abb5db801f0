-- Definitions. A deck without its sheet.
use Rattle.std.specs.Prelude.{ℕ, List, take}
use Rattle.deck.specs.Deck.{Deck}

-- A deck without its sheet, in whichever form it came: it composes, and its molecule is the same.
abbrev pub bare_deck : List ℕ → Deck → List ℕ
bare_deck d k = take k.sheet d
