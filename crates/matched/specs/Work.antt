-- Work. Tests of the definitions by names of their own, as the code makes them.
use Rattle.std.specs.Prelude.{ℕ, Bool, true, false, List, eqb}
use Rattle.graph.specs.Graph.{Graph, Bond, any_atom}
use Rattle.matched.specs.Matched.{partner, is_loose, is_unlisted}

-- one of the atoms 1 to n has the partner x
unfoldable pub is_taken : List ℕ → ℕ → ℕ → Bool
is_taken to n x = any_atom n (λ u. eqb (partner to u) x)

-- a bond that is listed is loose, or one of the deck is not listed
abbrev pub is_amiss : Bool → Graph → Graph → List ℕ → Bond → Bool
is_amiss true g h to = is_loose g h to
is_amiss false g h to = is_unlisted g to
