-- Definitions. Half a table: a number for each two of 64 atoms, stored once, for i < j, row after row.
use Rattle.std.specs.Prelude.{ℕ, zero, suc, ◌+◌, ◌*◌, ◌-◌, ◌/◌, min, max, Bool, ◌||◌, cond, List, [], ◌∷◌, ◌++◌, eqb, ltb, length, get_or, set}
use Rattle.std.proofs.lemmas.List.Edits.{sets}
use Rattle.reply.specs.Read.{is_outside}

-- the most atoms, and how many pairs they are
abbrev pub most_atoms : ℕ
most_atoms = 64

abbrev pub all_pairs : ℕ
all_pairs = most_atoms * (most_atoms - 1) / 2

-- f 0 to f (n - 1)
unfoldable pub table : {A : Type 0} → ℕ → (ℕ → A) → List A
table zero f = []
table (suc n) f = f zero ∷ table n (λ k. f (suc k))

-- where the row of atom i begins, and the place of the pair i < j in it
unfoldable pub row_start : ℕ → ℕ
row_start i = (i - 1) * (2 * most_atoms - i) / 2

unfoldable pub above_place : ℕ → ℕ → ℕ
above_place i j = row_start i + (j - i - 1)

-- i and j are not two of the atoms
unfoldable pub no_pair : ℕ → ℕ → Bool
no_pair i j = is_outside most_atoms i || is_outside most_atoms j || eqb i j

-- the place of two atoms, either way round; for no pair the one behind the last
unfoldable pub pair_place : ℕ → ℕ → ℕ
pair_place i j = cond (no_pair i j) all_pairs (above_place (min i j) (max i j))

-- what a half says of two atoms, either way round: 0 for no pair
unfoldable pub half_at : List ℕ → ℕ → ℕ → ℕ
half_at h i j = cond (no_pair i j) 0 (get_or h (pair_place i j) 0)

-- with x stored for two atoms
unfoldable pub half_with : List ℕ → ℕ → ℕ → ℕ → List ℕ
half_with h i j x = cond (no_pair i j) h (set h (pair_place i j) x)

-- the row of atom i, as a table has it: all 0 where there is no such atom
unfoldable pub half_row : List ℕ → ℕ → List ℕ
half_row h i = table most_atoms (λ j. half_at h i (suc j))

-- m entries of a row from place j on
unfoldable pub part_of : List ℕ → ℕ → ℕ → List ℕ
part_of row j zero = []
part_of row j (suc m) = get_or row j 0 ∷ part_of row (suc j) m

-- with a row of n atoms stored for atom i: what it has for the atoms behind i. Bytes that are no half stay as they are
unfoldable pub half_with_row : List ℕ → ℕ → List ℕ → ℕ → List ℕ
half_with_row h i row n = cond (is_outside most_atoms i || ltb (length h) all_pairs) h (sets h (row_start i) (part_of row i (min n most_atoms - i)))

-- the half of a table d: the row of atom i and those after it, `left` of them, one behind the other
unfoldable pub half_from : (ℕ → ℕ → ℕ) → ℕ → ℕ → List ℕ
half_from d i zero = []
half_from d i (suc left) = table (most_atoms - i) (λ k. d i (suc (i + k))) ++ half_from d (suc i) left

abbrev pub half_of : (ℕ → ℕ → ℕ) → List ℕ
half_of d = half_from d 1 (most_atoms - 1)
