-- Definitions. A book: a graph under each of some numbers. The blocks of a list of bytes are one.
use Rattle.std.specs.Prelude.{ℕ, ◌+◌, ◌*◌, Bool, ◌&&◌, not, cond, List, [], ◌∷◌, eqb}
use Rattle.graph.specs.Graph.{Graph}
use Rattle.block.specs.Block.{graph_of}
use Rattle.records.specs.Bytes.{part}
use Rattle.records.specs.Records.{block_kind}
use Rattle.assembly.specs.declared.BlockAt.{BlockAt}

-- the most blocks of a deck
abbrev pub most_blocks : ℕ
most_blocks = 16

pub record Book : Type 0 where
  pub has : ℕ → Bool
  pub graph : ℕ → Graph

-- the first block that has a number; one of no atoms where none has it
abbrev pub no_block : BlockAt
no_block = record { number = 0; start = 0; atoms = 0; bonds = 0 }

unfoldable pub find : List BlockAt → ℕ → BlockAt
find [] x = no_block
find (b ∷ bs) x = cond (eqb b.number x) b (find bs x)

-- whether some block has it: 0 is no block's number
abbrev pub is_numbered : BlockAt → ℕ → Bool
is_numbered b x = not (eqb x 0) && eqb b.number x

abbrev pub used : List BlockAt → ℕ → Bool
used bs x = is_numbered (find bs x) x

-- a block's bonds stand behind its number, n and m
abbrev pub bond_bytes : List ℕ → BlockAt → List ℕ
bond_bytes d b = part d (b.start + block_kind.fixed) (block_kind.item * b.bonds)

abbrev pub block_graph : List ℕ → BlockAt → Graph
block_graph d b = graph_of b.atoms (bond_bytes d b)

unfoldable pub book_of : List ℕ → List BlockAt → Book
book_of d bs = record { has = used bs; graph = λ x. block_graph d (find bs x) }
