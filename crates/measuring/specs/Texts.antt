-- Definitions. The indices of the block that a neighbour text holds: the refusals of the text and the block's; what is lent has room for the bonds of every block.
use Rattle.std.specs.Prelude.{ℕ, List}
use Rattle.reply.specs.Read.{Read, ◌then◌}
use Rattle.block.specs.Block.{most_bytes}
use Rattle.block.specs.Index.{indices_reply}
use Rattle.block.specs.declared.Indices.{Indices}
use Rattle.adjacency.specs.Neighbours.{bond_list_bytes, neighbours_reply}

unfoldable pub measured_text_reply : List ℕ → Read Indices
measured_text_reply t = neighbours_reply t most_bytes then λ g. indices_reply g.atoms (bond_list_bytes g.bonds)
