-- Laws. Each promise determines the reply and the lent bytes afterwards: two that satisfy it are equal. Assumes nothing.
use Rattle.std.specs.Prelude.{ℕ, List, ◌≡◌, Result}
use Rattle.reply.specs.Chain.{unique}
use Rattle.block.specs.Block.{said_molecule}
use Rattle.adjacency.specs.Neighbours.{neighbours_reply, bytes_after}
use Rattle.adjacency.specs.Written.{neighbours_write_reply, text_after}
use Rattle.neighbours.specs.Said.{said_neighbours_written}
use Rattle.reply.specs.declared.Refusal.{Refusal}
use Rattle.reply.specs.declared.Counts.{Counts}

module _ (text : List ℕ) (room : ℕ) where
  pub unique-read : (r s : Result Counts Refusal) → r ≡ said_molecule (neighbours_reply text room) → s ≡ said_molecule (neighbours_reply text room) → r ≡ s
  unique-read r s = unique

  pub unique-read_bytes : (out p q : List ℕ) → p ≡ bytes_after (neighbours_reply text room) out → q ≡ bytes_after (neighbours_reply text room) out → p ≡ q
  unique-read_bytes out p q = unique

module _ (n : ℕ) (xs : List ℕ) (room : ℕ) where
  pub unique-write : (r s : Result ℕ Refusal) → r ≡ said_neighbours_written (neighbours_write_reply n xs room) → s ≡ said_neighbours_written (neighbours_write_reply n xs room) → r ≡ s
  unique-write r s = unique

  pub unique-write_bytes : (out p q : List ℕ) → p ≡ text_after (neighbours_write_reply n xs room) out → q ≡ text_after (neighbours_write_reply n xs room) out → p ≡ q
  unique-write_bytes out p q = unique
