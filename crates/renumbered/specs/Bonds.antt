-- Work. What is said of two bonds, and gives the same for partners.
use Prim.Native.Nat.{ℕ}
use Rattle.std.specs.Prelude.{◌≡◌}
use Rattle.graph.specs.Graph.{Graph, Bond, bond, Within}
use Rattle.renumbered.specs.Renumbered.{Renumbered}
use Rattle.graph.specs.Matched.{Mutual}
use Rattle.graph.specs.BondPairs.{of_ends}

-- f gives for two atoms what k gives for their partners, whichever comes first
pub record Alike {g h : Graph} (r : Renumbered g h) (f k : Bond → ℕ) : Type 0 where
  pub swaps : Mutual h.atoms (of_ends k)
  pub same : (u v : ℕ) → Within g.atoms u → Within g.atoms v → f (bond u v) ≡ k (bond (r.numbers.to u) (r.numbers.to v))
