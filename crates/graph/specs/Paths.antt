-- Definitions. Shortest paths as lists of atoms, their counts, the common denominator D and the share of a bond: docs/RULES.md, "Contributions of bonds".
--
-- | notion                      | meaning                                 | the law that matters                           |
-- | `walks g k i j`             | the walks of k bonds, as lists of atoms | `walks_once` (Listed)                          |
-- | `shortest_paths g i j`      | those of as many bonds as the distance  | `paths_once` (Listed), `repeats_none` (Simple) |
-- | `path_count`, `paths_using` | c(i,j), c(i,j;e)                        | `walks-suc` (Steps)                            |
-- | `lcm`, `denominator`        | the least common multiple; D            | `denominator_dvd` (Lcm, Backwards)             |
-- | `share g e`                 | D times the contribution of bond e      | `shares_total` (Uses)                          |
use Rattle.std.specs.Prelude.{ℕ, zero, suc, ◌+◌, ◌*◌, ◌/◌, ◌%◌, Bool, false, ◌||◌, cond, List, [], ◌∷◌, ◌++◌, map, eqb, length}
use Rattle.graph.specs.Graph.{Graph, Bond, joins, bonded, first_from, distance, sum_pairs}

-- the lists that f gives for the atoms 1 to n, put together
unfoldable pub gather : ℕ → (ℕ → List (List ℕ)) → List (List ℕ)
gather zero f = []
gather (suc n) f = gather n f ++ f (suc n)

-- the walks of k bonds from i to j, each once (`walks_once`), as the list of its atoms from j back to i
unfoldable pub walks : Graph → ℕ → ℕ → ℕ → List (List ℕ)
walks g zero i j = cond (eqb i j) ((j ∷ []) ∷ []) []
walks g (suc k) i j =
    map (λ p. j ∷ p) (gather g.atoms (λ v. let before = walks g k i v in cond (bonded g v j) before []))

-- the shortest paths from i to j
unfoldable pub shortest_paths : Graph → ℕ → ℕ → List (List ℕ)
shortest_paths g i j = walks g (distance g i j) i j

-- whether two consecutive atoms of a path are the ends of bond e
unfoldable pub uses : Bond → List ℕ → Bool
uses e [] = false
uses e (a ∷ []) = false
uses e (a ∷ b ∷ p) = joins e b a || uses e (b ∷ p)

-- how many of the paths pass
unfoldable pub passing_paths : (List ℕ → Bool) → List (List ℕ) → ℕ
passing_paths q [] = 0
passing_paths q (p ∷ ps) = cond (q p) 1 0 + passing_paths q ps

-- c(i,j)
unfoldable pub path_count : Graph → ℕ → ℕ → ℕ
path_count g i j = length (shortest_paths g i j)

-- c(i,j;e)
unfoldable pub paths_using : Graph → Bond → ℕ → ℕ → ℕ
paths_using g e i j = passing_paths (uses e) (shortest_paths g i j)

-- the least common multiple: the first multiple of a, from a on, that b divides
unfoldable pub lcm : ℕ → ℕ → ℕ
lcm a b = first_from b 1 (λ k. eqb (k * a % b) 0) * a

-- the least common multiple of m and of f at 1 to n
unfoldable pub lcm_over : ℕ → (ℕ → ℕ) → ℕ → ℕ
lcm_over zero f m = m
lcm_over (suc n) f m = lcm (lcm_over n f m) (f (suc n))

-- the least common multiple of f at the pairs i < j of 1 to n, and 1 where there is no pair
unfoldable pub lcm_pairs : ℕ → (ℕ → ℕ → ℕ) → ℕ
lcm_pairs zero f = 1
lcm_pairs (suc n) f = lcm_over n (λ i. f i (suc n)) (lcm_pairs n f)

-- D
unfoldable pub denominator : Graph → ℕ
denominator g = lcm_pairs g.atoms (path_count g)

-- D times the contribution of bond e, a whole number: each c(i,j) divides D
unfoldable pub share : Graph → Bond → ℕ
share g e =
    let d = denominator g in
    sum_pairs g.atoms (λ i j. paths_using g e i j * (d / path_count g i j))
