-- Work. Lists of widths: what they come to, and that each is read as one number of 64 bits.
use Rattle.std.specs.Prelude.{ℕ, ◌+◌, ◌≤◌, List, [], ◌∷◌}

unfoldable pub widths_total : List ℕ → ℕ
widths_total [] = 0
widths_total (w ∷ ws) = w + widths_total ws

unfoldable pub Narrow : List ℕ → Type 0
Narrow [] = Unit {0}
Narrow (w ∷ ws) = (w ≤ 8) × Narrow ws
