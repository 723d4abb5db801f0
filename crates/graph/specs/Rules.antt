-- Work. How what an atom counts grows at a join.
use Prim.Native.Nat.{ℕ, ◌+◌, ◌*◌}
use Rattle.std.specs.Prelude.{◌≡◌}
use Rattle.graph.specs.Graph.{itself, each, even_of, odd_of, even_one, odd_one, is_at}

-- how what an atom counts grows when `other` is joined at distance d from it
pub record Grown (new old other : (ℕ → ℕ) → ℕ) (d : ℕ) : Type 0 where
  pub atoms : new each ≡ old each + other each
  pub sums : new itself ≡ old itself + (d + 1) * other each + other itself
  pub evens : new even_of ≡ old even_of
      + even_of d * other odd_one + even_one d * other odd_one + even_one d * other odd_of
      + odd_of d * other even_one + odd_one d * other even_one + odd_one d * other even_of
  pub odds : new odd_of ≡ old odd_of
      + even_of d * other even_one + even_one d * other even_one + even_one d * other even_of
      + odd_of d * other odd_one + odd_one d * other odd_one + odd_one d * other odd_of
  pub even_counts : new even_one ≡ old even_one + even_one d * other odd_one + odd_one d * other even_one
  pub odd_counts : new odd_one ≡ old odd_one + even_one d * other even_one + odd_one d * other odd_one
  pub at_1 : new (is_at 1) ≡ old (is_at 1) + is_at 0 d * other (is_at 0)
  pub at_2 : new (is_at 2) ≡ old (is_at 2) + is_at 0 d * other (is_at 1) + is_at 1 d * other (is_at 0)
