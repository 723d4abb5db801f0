-- Laws. Worked examples, computed: the first places, and the half of a table of three atoms in a row. Assumes nothing.
use Rattle.std.specs.Prelude.{ℕ, ◌-◌, max, min, cond, [], ◌∷◌, ◌≡◌, refl, ltb, length, take}
use Rattle.half.specs.Half.{table, row_start, above_place, no_pair, pair_place, half_at, half_with, half_row, half_from, half_of}

-- the first row has 63 places; either way round; 2,016 for equal atoms, and for atom 65
pub places : (pair_place 1 2 ≡ 0) × (pair_place 1 64 ≡ 62) × (pair_place 2 3 ≡ 63) × (pair_place 3 2 ≡ 63) × (pair_place 63 64 ≡ 2015) × (pair_place 5 5 ≡ 2016) × (pair_place 1 65 ≡ 2016)
unfolding pair_place no_pair above_place row_start
places = (refl, refl, refl, refl, refl, refl, refl)

-- three atoms in a row
unfoldable pub path : ℕ → ℕ → ℕ
path i j = cond (ltb 3 (max i j)) 0 (max i j - min i j)

pub reads : (length (half_of path) ≡ 2016) × (half_at (half_of path) 1 3 ≡ 2) × (half_at (half_of path) 3 1 ≡ 2) × (half_at (half_of path) 3 2 ≡ 1) × (half_at (half_of path) 2 2 ≡ 0)
unfolding half_from table path half_at pair_place no_pair above_place row_start
reads = (refl, refl, refl, refl, refl)

pub row_of_two : take 4 (half_row (half_of path) 2) ≡ 1 ∷ 0 ∷ 1 ∷ 0 ∷ []
unfolding half_row half_from table path half_at pair_place no_pair above_place row_start
row_of_two = refl

pub stored : (half_at (half_with (half_of path) 3 2 9) 2 3 ≡ 9) × (half_at (half_with (half_of path) 3 2 9) 1 3 ≡ 2)
unfolding half_with half_from table path half_at pair_place no_pair above_place row_start
stored = (refl, refl)
