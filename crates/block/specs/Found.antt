-- Work. What a search from one atom gives.
use Rattle.std.specs.Prelude.{ℕ, List, true, false, ◌≢◌, ◌≡◌}
use Rattle.graph.specs.Graph.{Graph, Within, connected}
use Rattle.graph.specs.Farthest.{farthest}
use Rattle.block.specs.Rows.{row_of}
use Rattle.block.specs.Near.{ShowsGraph}

-- a search from atom i over the neighbours of the n atoms of a graph
pub record SearchTask (g : Graph) (near : List ℕ) (n i : ℕ) : Type 0 where
  pub shown : ShowsGraph g near
  pub size : n ≡ g.atoms
  pub start : Within g.atoms i

-- it leaves no atom exactly where the graph is connected; then its row is that of the distances, and its last level the largest of them
pub record Searched (g : Graph) (i : ℕ) (row : List ℕ) (rest last : ℕ) : Type 0 where
  pub whole : rest ≡ 0 → connected g ≡ true
  pub apart : rest ≢ 0 → connected g ≡ false
  pub far : connected g ≡ true → row ≡ row_of g i
  pub deep : connected g ≡ true → last ≡ farthest g i
