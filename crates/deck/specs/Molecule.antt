-- Definitions. The molecule that a deck describes, with every atom and bond written out.
use Rattle.std.specs.Prelude.{ℕ, ◌-◌, List}
use Rattle.graph.specs.Graph.{Graph}
use Rattle.graph.specs.Assembly.{Join, written}
use Rattle.records.specs.Records.{payload_at}
use Rattle.assembly.specs.declared.Placement.{Placement}
use Rattle.assembly.specs.Book.{book_of}
use Rattle.assembly.specs.Placements.{placement_at, graph_on, join_on}
use Rattle.deck.specs.Deck.{Deck}

-- the placement at an index from 0, its block and its join
unfoldable pub placed_in : List ℕ → Deck → ℕ → Placement
placed_in d k i = placement_at (payload_at d k.assembly) i

unfoldable pub graph_at : List ℕ → Deck → ℕ → Graph
graph_at d k i = graph_on (book_of d k.blocks) (placed_in d k) i

unfoldable pub join_at : List ℕ → Deck → ℕ → Join
join_at d k i = join_on (placed_in d k) i

unfoldable pub molecule_of : List ℕ → Deck → Graph
molecule_of d k = written (graph_at d k) (join_at d k) (k.placements - 1)
