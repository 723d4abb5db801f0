-- Laws. The bonds that a neighbour text holds stand at the front of what is lent for them. Assumes nothing.
use Prim.Native.Nat.{ℕ, ◌*◌, ◌≤◌}
use mathlib.Core.List.{List}
use mathlib.Core.Path.{◌≡◌, refl, sym}
use lib.ListN.{length, take}
use Rattle.graph.specs.Graph.{Graph}
use Rattle.reply.specs.Read.{read, ◌then◌}
use Rattle.block.specs.Block.{most_bytes}
use Rattle.block.specs.Index.{indices_reply}
use Rattle.adjacency.specs.Neighbours.{bond_list_bytes, neighbours_reply, bytes_after}
use Rattle.adjacency.proofs.Blocks.{bytes_length}
use Rattle.measuring.specs.Texts.{measured_text_reply}
use Rattle.measuring.proofs.Fits.{front_cut}

module _ (t : List ℕ) where
  pub text_is : (neighbours_reply t most_bytes then λ g. indices_reply g.atoms (bond_list_bytes g.bonds)) ≡ measured_text_reply t
  unfolding measured_text_reply
  text_is = refl

  pub text_cut : (old new : List ℕ) → length old ≡ most_bytes → new ≡ bytes_after (neighbours_reply t (length old)) old → (g : Graph) → neighbours_reply t most_bytes ≡ read g
      → (2 * length g.bonds ≤ length new) × (take (2 * length g.bonds) new ≡ bond_list_bytes g.bonds)
  text_cut old new l h g e = front_cut (bond_list_bytes g.bonds) _ (length g.bonds) (sym (bytes_length g.bonds)) (rw (l, e) at h)
