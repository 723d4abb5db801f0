-- Definitions. The indices of a block, its distances and vertex sums, and how many pairs lie at each distance, or its refusal.
use Rattle.std.specs.Prelude.{ℕ, List, Ok, Err}
use Rattle.graph.specs.Graph.{Graph, distance, wiener, even_part, odd_part, polarity, pairs_at, vertex_sum, vertex_even, vertex_odd, even_count, odd_count, count_at}
use Rattle.graph.specs.Farthest.{farthest, largest}
use Rattle.reply.specs.Read.{Read, refused, read, ◌then◌, refuse_if, is_outside}
use Rattle.block.specs.Block.{most_atoms, graph_of, block_reply}
use Rattle.block.specs.Rows.{table, no_row}
use Rattle.block.specs.declared.Indices.{Indices}
use Rattle.block.specs.declared.Vertex.{Vertex}
use Rattle.block.specs.declared.Pairs.{Pairs}

unfoldable pub indices_of : Graph → Indices
indices_of g = record { atoms = g.atoms; w = wiener g; even = even_part g; odd = odd_part g; polarity = polarity g; largest = largest g }

unfoldable pub indices_reply : ℕ → List ℕ → Read Indices
indices_reply n xs = block_reply n xs then λ _. read (indices_of (graph_of n xs))

-- the even count includes the atom itself, at distance 0
unfoldable pub vertex_of : Graph → ℕ → Vertex
vertex_of g a = record {
  sum = vertex_sum g a;
  even = vertex_even g a;
  odd = vertex_odd g a;
  evens = even_count g a;
  odds = odd_count g a;
  ones = count_at g a 1;
  twos = count_at g a 2;
  farthest = farthest g a;
}

-- 18 at place 0 where there is no atom a
unfoldable pub vertex_reply : ℕ → List ℕ → ℕ → Read Vertex
vertex_reply n xs a = block_reply n xs then λ _. refuse_if (is_outside n a) 18 0 then λ _. read (vertex_of (graph_of n xs) a)

unfoldable pub distance_reply : ℕ → List ℕ → ℕ → ℕ → Read ℕ
distance_reply n xs i j =
    block_reply n xs then λ _.
    refuse_if (is_outside n i) 18 0 then λ _.
    refuse_if (is_outside n j) 18 0 then λ _.
    read (distance (graph_of n xs) i j)

-- n(k) at place k
unfoldable pub pairs_of : Graph → List ℕ
pairs_of g = table most_atoms (pairs_at g)

unfoldable pub pairs_reply : ℕ → List ℕ → Read (List ℕ)
pairs_reply n xs = block_reply n xs then λ _. read (pairs_of (graph_of n xs))

abbrev pub said_pairs : Read (List ℕ) → Pairs
said_pairs (refused r) = record { reply = Err r; at = no_row }
said_pairs (read ns) = record { reply = Ok tt; at = ns }
