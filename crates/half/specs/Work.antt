-- Work. How a row is read out of a half, and stored.
use Rattle.std.specs.Prelude.{ℕ, ◌+◌, ◌≤◌, ◌<◌, List, ◌≡◌, length, get_or}
use Rattle.half.specs.Half.{most_atoms, half_at}

-- the first k bytes of a row are atom i's, and the others are 0
pub record Upto (h : List ℕ) (i k : ℕ) (row : List ℕ) : Type 0 where
  pub size : length row ≡ most_atoms
  pub told : (j : ℕ) → j < k → get_or row j 0 ≡ half_at h i (1 + j)
  pub rest : (j : ℕ) → k ≤ j → get_or row j 0 ≡ 0
