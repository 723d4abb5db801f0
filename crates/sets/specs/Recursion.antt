-- Definitions. The recursion of [Ilić, Ilić], algorithms 1 and 2, over a tree that hangs on a root: what it keeps of an atom by what it kept of the atom's children.
use Rattle.std.specs.Prelude.{ℕ, zero, suc, ◌+◌, ◌*◌, ◌/◌, not, ◌&&◌, cond, List, [], ◌∷◌, ◌++◌, map, eqb}
use Rattle.graph.specs.Graph.{Graph, Bond}

-- what is counted of an atom and all that hangs on it: h[v], hw[v], i[v], iw[v]
pub record Branch : Type 0 where
  pub h : ℕ
  pub hw : ℕ
  pub i : ℕ
  pub iw : ℕ

-- the children of v: the atoms that bonds join to it, without the one that it was reached from
unfoldable pub child : Bond → ℕ → ℕ → List ℕ
child b from v =
    cond (eqb b.one v && not (eqb b.two from)) (b.two ∷ [])
    (cond (eqb b.two v && not (eqb b.one from)) (b.one ∷ []) [])

unfoldable pub children : List Bond → ℕ → ℕ → List ℕ
children [] from v = []
children (b ∷ bs) from v = child b from v ++ children bs from v

-- a number of each child, multiplied and added up
unfoldable pub product_of : (Branch → ℕ) → List Branch → ℕ
product_of f [] = 1
product_of f (u ∷ us) = f u * product_of f us

unfoldable pub sum_of : (Branch → ℕ) → List Branch → ℕ
sum_of f [] = 0
sum_of f (u ∷ us) = f u + sum_of f us

-- algorithm 1: prod = ∏ h[u], hw[v] = prod, h[v] = hw[v] + Σ (prod / h[u]) * hw[u]; algorithm 2: iw[v] = ∏ i[u], i[v] = iw[v] + ∏ iw[u]; a leaf has no child
unfoldable pub at_atom : List Branch → Branch
at_atom us =
    let prod = product_of (λ u. u.h) us in
    let prod_i = product_of (λ u. u.i) us in
    record { h = prod + sum_of (λ u. (prod / u.h) * u.hw) us; hw = prod; i = prod_i + product_of (λ u. u.iw) us; iw = prod_i }

-- v with all that hangs on it down to so many bonds, reached from another atom
unfoldable pub branch : ℕ → List Bond → ℕ → ℕ → Branch
branch zero bs from v = at_atom []
branch (suc k) bs from v = at_atom (map (branch k bs v) (children bs from v))

-- from the root, which is reached from no atom; nothing hangs deeper than there are atoms
abbrev pub from_root : Graph → ℕ → Branch
from_root g root = branch g.atoms g.bonds 0 root
