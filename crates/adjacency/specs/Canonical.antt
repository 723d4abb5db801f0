-- Definitions. A block's bonds in the order of its written text: by the smaller end, then by the greater, the smaller end first.
use Rattle.std.specs.Prelude.{ℕ, zero, suc, ◌+◌, ◌≤◌, Bool, cond, List, [], ◌∷◌, ◌++◌, map, ◌≡◌, length}
use Rattle.graph.specs.Graph.{Bond, bond, joins, any_joins}
use Rattle.adjacency.specs.Written.{greater}

-- the bonds whose smaller end is one of the atoms 1 to m
unfoldable pub bonds_up_to : (ℕ → ℕ → Bool) → ℕ → ℕ → List Bond
bonds_up_to joined n zero = []
bonds_up_to joined n (suc m) = bonds_up_to joined n m ++ map (bond (suc m)) (greater joined n (suc m))

unfoldable pub canonical : ℕ → List Bond → List Bond
canonical n bs = bonds_up_to (any_joins bs) n n

-- how many bonds of a list join u and v, either end first
unfoldable pub times_joined : List Bond → ℕ → ℕ → ℕ
times_joined [] u v = 0
times_joined (b ∷ bs) u v = cond (joins b u v) 1 0 + times_joined bs u v

-- One list is the other in another order, some bonds with their ends turned: whatever a bond of either joins, one bond of each joins, and no second one.
pub record Rearranged (bs cs : List Bond) : Type 0 where
  pub many : length cs ≡ length bs
  pub times : (u v : ℕ) → times_joined cs u v ≡ times_joined bs u v
  pub once : (u v : ℕ) → times_joined bs u v ≤ 1
