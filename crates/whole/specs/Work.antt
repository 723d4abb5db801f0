-- Work. What is put for each placement, and for those before one.
use Rattle.std.specs.Prelude.{ℕ, zero, suc, ◌+◌, ◌*◌, List, [], ◌∷◌, ◌++◌}
use Rattle.graph.specs.Graph.{Bond, bond, Graph}
use Rattle.graph.specs.Assembly.{Join, shifted, atom_of, start_at}
use Rattle.block.specs.Block.{most_atoms, most_bytes, bonds_of}
use Rattle.assembly.specs.Placements.{most_placements}
use Rattle.whole.specs.Whole.{pair_numbers}

-- the most atoms of a deck's molecule
abbrev pub most_start : ℕ
most_start = most_atoms * most_placements

-- the most numbers that a placement's bonds take, with the one that joins it, and those of all
abbrev pub most_brought : ℕ
most_brought = most_bytes + 2

abbrev pub most_numbers : ℕ
most_numbers = most_brought * most_placements

-- past any atom's number, and past any bond's place, before they are known to be less
abbrev pub over_atoms : ℕ
over_atoms = most_start + 255

abbrev pub over_numbers : ℕ
over_numbers = most_numbers + most_bytes

-- a block's bonds, its atoms counted from a start on
unfoldable pub block_numbers : ℕ → List ℕ → List ℕ
block_numbers start xs = pair_numbers (shifted start (bonds_of xs))

-- how many bonds a placement is joined by: the first by none
unfoldable pub joins_of : ℕ → ℕ
joins_of zero = 0
joins_of (suc k) = 1

module _ (blocks : ℕ → Graph) (joins : ℕ → Join) where
  -- the bond that joins a placement to its parent: the first has none
  unfoldable pub joining : ℕ → List Bond
  joining zero = []
  joining (suc k) = bond (atom_of blocks (joins (suc k)).parent (joins (suc k)).site) (start_at blocks (suc k) + (joins (suc k)).own) ∷ []

  -- what a placement brings
  unfoldable pub brought : ℕ → List Bond
  brought k = shifted (start_at blocks k) (blocks k).bonds ++ joining k

  -- the bonds of the placements before an index
  unfoldable pub bonds_before : ℕ → List Bond
  bonds_before zero = []
  bonds_before (suc k) = bonds_before k ++ brought k
