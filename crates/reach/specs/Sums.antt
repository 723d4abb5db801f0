-- Definitions. The vertex sums of all atoms of a block, or its refusal.
use Rattle.std.specs.Prelude.{ℕ, suc, cond, List, ltb}
use Rattle.graph.specs.Graph.{Graph, vertex_sum}
use Rattle.half.specs.Half.{table}
use Rattle.reply.specs.Read.{Read, read, ◌then◌}
use Rattle.block.specs.Block.{most_atoms, graph_of, block_reply}

-- that of atom v at place v - 1
unfoldable pub vertex_sums_of : Graph → List ℕ
vertex_sums_of g = table most_atoms (λ i. cond (ltb i g.atoms) (vertex_sum g (suc i)) 0)

unfoldable pub sums_reply : ℕ → List ℕ → Read (List ℕ)
sums_reply n xs = block_reply n xs then λ _. read (vertex_sums_of (graph_of n xs))
