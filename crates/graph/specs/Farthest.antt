-- Definitions. The largest distance from an atom, and of a graph: a maximum over atoms and over pairs, beside the sums of Graph.
use Rattle.std.specs.Prelude.{ℕ, zero, suc, max}
use Rattle.graph.specs.Graph.{Graph, distance}

-- the largest of f over 1 to n, and over the pairs i < j of 1 to n; 0 where there is none
unfoldable pub most : ℕ → (ℕ → ℕ) → ℕ
most zero f = 0
most (suc n) f = max (most n f) (f (suc n))

unfoldable pub most_pairs : ℕ → (ℕ → ℕ → ℕ) → ℕ
most_pairs zero f = 0
most_pairs (suc n) f = max (most_pairs n f) (most n (λ i. f i (suc n)))

-- how far the farthest atom is from atom a
unfoldable pub farthest : Graph → ℕ → ℕ
farthest g a = most g.atoms (distance g a)

-- how far the two atoms are apart that are farthest from each other
unfoldable pub largest : Graph → ℕ
largest g = most_pairs g.atoms (distance g)
