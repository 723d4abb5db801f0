-- Definitions. Graphs joined by single bonds, and an assembly of blocks written out as one graph: docs/RULES.md, "Joining" and "The deck".
use Rattle.std.specs.Prelude.{ℕ, zero, suc, ◌+◌, ◌-◌, ◌≤◌, List, [], ◌∷◌, ◌++◌}
use Rattle.graph.specs.Graph.{Bond, bond, Graph, Within, Molecule}

-- the bonds of a graph whose atoms are counted from n + 1
unfoldable pub shifted : ℕ → List Bond → List Bond
shifted n [] = []
shifted n (b ∷ bs) = bond (n + b.one) (n + b.two) ∷ shifted n bs

-- g and h joined by a bond between atom a of g and atom b of h: h's atoms follow g's
unfoldable pub joined : Graph → Graph → ℕ → ℕ → Graph
joined g h a b = record {
  atoms = g.atoms + h.atoms;
  bonds = g.bonds ++ (shifted g.atoms h.bonds ++ (bond a (g.atoms + b) ∷ []));
}

-- how a placement is joined: its parent placement, numbered from 1, the parent's atom, and its own atom
pub record Join : Type 0 where
  pub parent : ℕ
  pub site : ℕ
  pub own : ℕ

-- An assembly is a block and a join for each placement. Placement number k stands at index k - 1; the join at index 0 says nothing.

-- how many atoms stand before the placement at an index
unfoldable pub start_at : (ℕ → Graph) → ℕ → ℕ
start_at blocks zero = 0
start_at blocks (suc k) = start_at blocks k + (blocks k).atoms

-- the number that atom i of placement number k has in the whole molecule
abbrev pub atom_of : (ℕ → Graph) → ℕ → ℕ → ℕ
atom_of blocks k i = start_at blocks (k - 1) + i

-- the molecule of the placements at the indices 0 to `last`, with every atom and bond written out
unfoldable pub written : (ℕ → Graph) → (ℕ → Join) → ℕ → Graph
written blocks joins zero = blocks 0
written blocks joins (suc k) =
    joined (written blocks joins k) (blocks (suc k)) (atom_of blocks (joins (suc k)).parent (joins (suc k)).site) (joins (suc k)).own

-- the placement at index k is joined to an earlier one, at atoms that exist
pub record Stands (blocks : ℕ → Graph) (joins : ℕ → Join) (k : ℕ) : Type 0 where
  pub parent : Within k (joins k).parent
  pub site : Within (blocks ((joins k).parent - 1)).atoms (joins k).site
  pub own : Within (blocks k).atoms (joins k).own

-- the placements at the indices 0 to `last` are molecules, each later one joined to an earlier one
pub record Assembled (blocks : ℕ → Graph) (joins : ℕ → Join) (last : ℕ) : Type 0 where
  pub molecules : (k : ℕ) → k ≤ last → Molecule (blocks k)
  pub stands : (k : ℕ) → 1 ≤ k → k ≤ last → Stands blocks joins k

-- placement number k has an atom i
pub record Placed (blocks : ℕ → Graph) (last k i : ℕ) : Type 0 where
  pub number : Within (suc last) k
  pub atom : Within (blocks (k - 1)).atoms i
