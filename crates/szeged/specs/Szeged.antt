-- Definitions. The Szeged index, over the distances: Ivanciuc, "QSAR Comparative Study of Wiener Descriptors for Weighted Molecular Graphs", equation 22, with no weights.
use Rattle.std.specs.Prelude.{ℕ, ◌*◌, cond, List, map, ltb}
use Rattle.graph.specs.Graph.{Graph, Bond, distance, sum, sum_bonds}

-- 1 where atom x is nearer to u than to v, else 0: equal distances count for neither
unfoldable pub closer : Graph → ℕ → ℕ → ℕ → ℕ
closer g u v x = cond (ltb (distance g x u) (distance g x v)) 1 0

-- how many atoms are nearer to u than to v
unfoldable pub nearer : Graph → ℕ → ℕ → ℕ
nearer g u v = sum g.atoms (closer g u v)

-- what a bond gives: the atoms nearer to one end times the atoms nearer to the other
unfoldable pub szeged_term : Graph → Bond → ℕ
szeged_term g b = nearer g b.one b.two * nearer g b.two b.one

-- the terms in the order of the bonds
abbrev pub szeged_terms : Graph → List ℕ
szeged_terms g = map (szeged_term g) g.bonds

abbrev pub szeged : Graph → ℕ
szeged g = sum_bonds g.bonds (szeged_term g)
