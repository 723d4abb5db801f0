-- Work. What the functions put, number by number.
use Rattle.std.specs.Prelude.{ℕ, zero, suc, ◌%◌, List, [], ◌∷◌, ◌++◌, get_or}
use Rattle.block.specs.declared.Indices.{Indices}
use Rattle.records.specs.Bytes.{little_bytes}

-- sets of 8 bytes, from one on
unfoldable pub near_bytes : List ℕ → ℕ → ℕ → List ℕ
near_bytes near i zero = []
near_bytes near i (suc left) = little_bytes 8 (get_or near i 0) ++ near_bytes near (suc i) left

unfoldable pub first_bytes : ℕ → ℕ → ℕ → List ℕ
first_bytes x n far = little_bytes 2 x ++ ((n % 256) ∷ (far % 256) ∷ [])

unfoldable pub total_bytes : ℕ → ℕ → ℕ → List ℕ
total_bytes even odd threes = little_bytes 4 even ++ (little_bytes 4 odd ++ little_bytes 4 threes)

unfoldable pub head_on : ℕ → Indices → List ℕ
head_on x s = first_bytes x s.atoms s.largest ++ total_bytes s.even s.odd s.polarity
