-- Definitions. What the C functions for molfiles answer: the library's reply, then 9 where a number that is lent out beside it has no room.
use Rattle.std.specs.Prelude.{ℕ, ◌/◌, List, [], ◌∷◌, length}
use Rattle.reply.specs.Read.{Read}
use Rattle.block.specs.Block.{bonds_of}
use Rattle.molfile.specs.Molfile.{kept_atoms, bytes_of, molfile_reply}
use Rattle.wholefile.specs.Whole.{whole_file_reply}
use Rattle.molwriter.specs.Written.{molfile_text, molfile_write_reply}
use Rattle.calls.specs.Beside.{with_room, Beside}

-- reading: the bonds go out, and the numbers of atoms and of bonds
abbrev pub read_reply : List ℕ → ℕ → ℕ → Read (Unit {0})
read_reply d room entries = with_room entries 2 (molfile_reply d room)

abbrev pub MolfileRead : List ℕ → List ℕ → List ℕ → ℕ → List ℕ → List ℕ → Type 0
MolfileRead d bonds counts =
    Beside (read_reply d (length bonds) (length counts)) (λ _. bytes_of d) (λ _. kept_atoms d ∷ length (bytes_of d) / 2 ∷ []) bonds counts

-- reading as one molecule: the same, as numbers of 16 bits
abbrev pub whole_read_reply : List ℕ → ℕ → ℕ → Read (Unit {0})
whole_read_reply d room entries = with_room entries 2 (whole_file_reply d room)

abbrev pub WholeFileRead : List ℕ → List ℕ → List ℕ → ℕ → List ℕ → List ℕ → Type 0
WholeFileRead d bonds counts =
    Beside (whole_read_reply d (length bonds) (length counts)) (λ _. bytes_of d) (λ _. kept_atoms d ∷ length (bytes_of d) / 2 ∷ []) bonds counts

-- writing: the text goes out, and its length
abbrev pub written_reply : ℕ → List ℕ → ℕ → ℕ → Read ℕ
written_reply n xs room entries = with_room entries 1 (molfile_write_reply n xs room)

abbrev pub MolfileWritten : ℕ → List ℕ → List ℕ → List ℕ → ℕ → List ℕ → List ℕ → Type 0
MolfileWritten n xs text told = Beside (written_reply n xs (length text) (length told)) (λ _. molfile_text n (bonds_of xs)) (λ k. k ∷ []) text told
