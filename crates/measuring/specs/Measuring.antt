-- Definitions. The indices of the block that a molfile holds: the refusals of its lines, then the block's over the kept bonds.
use Rattle.std.specs.Prelude.{ℕ, ◌*◌, ◌≤◌, List, ◌≡◌, length, take, Result, Ok}
use Rattle.reply.specs.Read.{Read, ◌then◌}
use Rattle.reply.specs.declared.Counts.{Counts}
use Rattle.block.specs.Index.{indices_reply}
use Rattle.block.specs.declared.Indices.{Indices}
use Rattle.molfile.specs.Molfile.{lines_reply, kept_atoms, bytes_of}
use Rattle.reply.specs.declared.Refusal.{Refusal}

unfoldable pub measure_reply : List ℕ → Read Indices
measure_reply d = lines_reply d then λ _. indices_reply (kept_atoms d) (bytes_of d)

-- after reading: the counted bonds stand at the front of these bytes, and are measured
abbrev pub Fits : Result Counts Refusal → List ℕ → Type 0
Fits seen xs = (c : Counts) → seen ≡ Ok c → 2 * c.bonds ≤ length xs

abbrev pub counted_reply : Read Counts → List ℕ → Read Indices
counted_reply answer xs = answer then λ c. indices_reply c.atoms (take (2 * c.bonds) xs)
