-- Laws. What is measured of a neighbour text is its block's, with 21, 22 and 1 to 7 and never 9. Assumes nothing.
use Rattle.std.specs.Prelude.{ℕ, List, ◌≡◌, refl}
use Rattle.std.proofs.Common.{◌∙◌, ap}
use Rattle.graph.specs.Graph.{Graph}
use Rattle.reply.specs.Read.{Read, refused, read, ◌then◌}
use Rattle.block.specs.Block.{most_bytes}
use Rattle.block.specs.Index.{indices_of, indices_reply}
use Rattle.block.specs.declared.Indices.{Indices}
use Rattle.adjacency.specs.Neighbours.{bond_list_bytes, neighbours_reply}
use Rattle.adjacency.proofs.Blocks.{bytes_bonds}
use Rattle.adjacency.proofs.Taken.{read_fine}
use Rattle.adjacency.specs.Roomy.{text_alone, text_alone_lem}
use Rattle.measuring.specs.Texts.{measured_text_reply}

pub measured_text : (t : List ℕ) → measured_text_reply t ≡ (text_alone t then λ g. read (indices_of g))
unfolding measured_text_reply indices_reply
measured_text t = go (neighbours_reply t most_bytes) refl ∙ ap (λ (m : Read Graph). m then λ g. read (indices_of g)) (text_alone_lem t)
  where
    go : (m : Read Graph) → neighbours_reply t most_bytes ≡ m → ◌≡◌ {A = Read Indices} (m then λ g. indices_reply g.atoms (bond_list_bytes g.bonds)) (m then λ g. read (indices_of g))
    go (refused r) e = refl
    go (read g) e = rw (read_fine t most_bytes g e, bytes_bonds g.bonds)
