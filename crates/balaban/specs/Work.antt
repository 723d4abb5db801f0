-- Work. How the answer is worked out: the vertex sums in a list, and roots rounded down.
use Rattle.std.specs.Prelude.{ℕ, ◌+◌, ◌*◌, ◌^◌, ◌≤◌, ◌<◌, List, ◌≡◌}
use Rattle.graph.specs.Graph.{Within, vertex_sum}
use Rattle.reply.specs.Read.{read}
use Rattle.block.specs.Block.{most_atoms, graph_of, block_reply}
use Rattle.block.specs.Sums.{entry}

-- the most that a bond brings, and the most that the distances from an atom add up to
abbrev pub unit : ℕ
unit = 10 ^ 9

abbrev pub most_sum : ℕ
most_sum = most_atoms * most_atoms

-- the fractions that a guess is reckoned with are below this
abbrev pub word : ℕ
word = 2 ^ 32

-- r is the root of q, rounded down
pub record Root (q r : ℕ) : Type 0 where
  pub low : r * r ≤ q
  pub high : q < (r + 1) * (r + 1)

-- a block that is not refused, and a list of its vertex sums
pub record RootsTask (n : ℕ) (xs sums : List ℕ) : Type 0 where
  pub fine : block_reply n xs ≡ read tt
  pub is : (v : ℕ) → Within n v → entry sums v ≡ vertex_sum (graph_of n xs) v
  pub low : (v : ℕ) → Within n v → entry sums v ≤ most_sum
