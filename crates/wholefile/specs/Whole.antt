-- Definitions. A molfile as one molecule: its refusals in the order of docs/RULES.md. The number of bonds (2) and paths between atoms (7) are not asked.
use Rattle.std.specs.Prelude.{ℕ, List, [], eqb}
use Rattle.reply.specs.Read.{Read, ◌then◌, refuse_if}
use Rattle.block.specs.Block.{bonds_of, bonds_reply}
use Rattle.molfile.specs.Molfile.{file_reply}

-- n atoms and the bonds between them, two numbers each: no atom, then the bonds one by one
unfoldable pub molecule_reply : ℕ → List ℕ → Read (Unit {0})
molecule_reply n xs =
    refuse_if (eqb n 0) 1 0 then λ _.
    bonds_reply n [] (bonds_of xs)

abbrev pub whole_file_reply : List ℕ → ℕ → Read (Unit {0})
whole_file_reply = file_reply molecule_reply
