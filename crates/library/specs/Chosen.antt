-- Work. The digits of a choice, and its arms among all.
use Rattle.std.specs.Prelude.{ℕ, zero, suc, ◌+◌, ◌*◌, ◌<◌, List, [], ◌∷◌, ◌≡◌, get_or}
use Rattle.arms.specs.Arms.{no_arm, row_arm}
use Rattle.arms.specs.declared.Arm.{Arm}
use Rattle.catalogue.specs.Library.{most_candidates}

-- the first n digits of a table, the last first
unfoldable pub choice_in : List ℕ → ℕ → List ℕ
choice_in digits zero = []
choice_in digits (suc k) = get_or digits k 0 ∷ choice_in digits k

-- the arms of a choice for the first n sites, among all
pub record Picked (all : List (List ℕ)) (digits : List ℕ) (n : ℕ) (arms : List Arm) : Type 0 where
  pub arm : (k : ℕ) → k < n → get_or arms k no_arm ≡ row_arm (get_or all (most_candidates * k + get_or digits k 0) [])
