-- Definitions. What it is that a block's bonds are written and read again over lent bytes.
use Rattle.std.specs.Prelude.{ℕ, List, ◌≡◌, length, take}
use Rattle.reply.specs.Read.{read}
use Rattle.block.specs.Block.{bonds_of}
use Rattle.adjacency.specs.Neighbours.{bonds_length, bond_list_bytes, neighbours_reply, bytes_after}
use Rattle.adjacency.specs.Written.{neighbours_write_reply, text_after}
use Rattle.adjacency.specs.Canonical.{canonical}

-- The bonds that reading a text leaves at the front of what is lent for them
abbrev pub bonds_left : List ℕ → List ℕ → List ℕ → List ℕ
bonds_left xs text bonds = take (bonds_length (bonds_of xs)) (bytes_after (neighbours_reply text (length bonds)) bonds)

-- they are the block's in the order of the text; and writing them tells, and leaves in whatever is lent, what writing the block does
pub record RoundTrip (n : ℕ) (xs text bonds : List ℕ) : Type 0 where
  pub reply : neighbours_reply text (length bonds) ≡ read (record { atoms = n; bonds = canonical n (bonds_of xs) })
  pub bytes : bonds_left xs text bonds ≡ bond_list_bytes (canonical n (bonds_of xs))
  pub told : (room : ℕ) → neighbours_write_reply n (bonds_left xs text bonds) room ≡ neighbours_write_reply n xs room
  pub again : (out : List ℕ) → text_after (neighbours_write_reply n (bonds_left xs text bonds) (length out)) out ≡ text_after (neighbours_write_reply n xs (length out)) out
