-- Laws. Each promise determines the reply: two replies that satisfy it are equal. Assumes nothing.
use Rattle.std.specs.Prelude.{ℕ, min, List, ◌≡◌}
use Rattle.reply.specs.Chain.{unique}
use Rattle.half.specs.Half.{most_atoms, pair_place, half_at, half_with, half_row, half_with_row}

pub unique-within : (n r s : ℕ) → r ≡ min n most_atoms → s ≡ min n most_atoms → r ≡ s
unique-within n r s = unique

module _ (i j : ℕ) where
  pub unique-place : (r s : ℕ) → r ≡ pair_place i j → s ≡ pair_place i j → r ≡ s
  unique-place r s = unique

  module _ (h : List ℕ) where
    pub unique-get : (r s : ℕ) → r ≡ half_at h i j → s ≡ half_at h i j → r ≡ s
    unique-get r s = unique

    pub unique-put : (d : ℕ) (p q : List ℕ) → p ≡ half_with h i j d → q ≡ half_with h i j d → p ≡ q
    unique-put d p q = unique

module _ (h : List ℕ) (i : ℕ) where
  pub unique-row : (r s : List ℕ) → r ≡ half_row h i → s ≡ half_row h i → r ≡ s
  unique-row r s = unique

  pub unique-put_row : (row : List ℕ) (n : ℕ) (p q : List ℕ) → p ≡ half_with_row h i row n → q ≡ half_with_row h i row n → p ≡ q
  unique-put_row row n p q = unique
