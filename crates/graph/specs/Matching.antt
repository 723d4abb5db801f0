-- Definitions. The numbers 1 to n and the numbers 1 to m in pairs.
use Rattle.std.specs.Prelude.{ℕ, ◌≡◌}
use Rattle.graph.specs.Graph.{Within}

-- `to` gives each of 1 to n its partner of 1 to m, and `back` leads from there; each undoes the other. So none is left out on either side, and none is used twice.
pub record Matching (n m : ℕ) : Type 0 where
  pub to : ℕ → ℕ
  pub back : ℕ → ℕ
  pub there : (v : ℕ) → Within n v → Within m (to v)
  pub here : (v : ℕ) → Within m v → Within n (back v)
  pub home : (v : ℕ) → Within n v → back (to v) ≡ v
  pub away : (v : ℕ) → Within m v → to (back v) ≡ v
