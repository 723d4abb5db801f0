-- Definitions. The two numbers of a block that is a tree, or its refusal.
use Rattle.std.specs.Prelude.{ℕ, suc, not, List, eqb, length}
use Rattle.graph.specs.Graph.{Graph}
use Rattle.reply.specs.Read.{Read, refused, read, ◌then◌, refuse_if, is_outside}
use Rattle.block.specs.Block.{bonds_of, graph_of, block_reply}
use Rattle.sets.specs.Sets.{hosoya, merrifield_simmons}
use Rattle.sets.specs.declared.Sets.{Sets}

unfoldable pub sets_of : Graph → Sets
sets_of g = record { bonds = hosoya g; atoms = merrifield_simmons g }

-- 34 at place 0 where the bonds are not one fewer than the atoms
unfoldable pub tree_reply : ℕ → List ℕ → Read Sets
tree_reply n xs = refuse_if (not (eqb (suc (length (bonds_of xs))) n)) 34 0 then λ _. read (sets_of (graph_of n xs))

unfoldable pub sets_reply : ℕ → List ℕ → Read Sets
sets_reply n xs = block_reply n xs then λ _. tree_reply n xs

-- from a root that is named: 18 at place 0 where there is no such atom
unfoldable pub sets_from_reply : ℕ → List ℕ → ℕ → Read Sets
sets_from_reply n xs root = block_reply n xs then λ _. refuse_if (is_outside n root) 18 0 then λ _. tree_reply n xs
