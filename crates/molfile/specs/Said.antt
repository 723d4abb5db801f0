-- Definitions. How the code says what a molfile says.
use Rattle.std.specs.Prelude.{ℕ, ◌/◌, List, ◌++◌, length, take, drop, Result, Ok, Err}
use Rattle.reply.specs.Read.{Read, refused, read, ◌then◌, as_result}
use Rattle.block.specs.Block.{block_reply}
use Rattle.molfile.specs.Molfile.{lines_reply, kept_atoms, bytes_of, file_reply}
use Rattle.reply.specs.declared.Refusal.{Refusal}
use Rattle.reply.specs.declared.Counts.{Counts}
use Rattle.molfile.specs.declared.Kept.{Kept}

-- so many atoms, and bonds that take these numbers, two each
abbrev pub said_answer : ℕ → List ℕ → Read (Unit {0}) → Result Counts Refusal
said_answer n xs answer = as_result (answer then λ _. read (record { atoms = n; bonds = length xs / 2 }))

abbrev pub said_molfile : List ℕ → Read (Unit {0}) → Result Counts Refusal
said_molfile d = said_answer (kept_atoms d) (bytes_of d)

-- what is kept of a file: so many atoms, and as many numbers of bonds as there is room for
abbrev pub said_kept : List ℕ → ℕ → Read (Unit {0}) → Result Kept Refusal
said_kept d room (refused r) = Err r
said_kept d room (read u) = Ok (record { atoms = kept_atoms d; numbers = length (take room (bytes_of d)) })

-- what is lent afterwards: the numbers of the kept bonds, and later ones as they were; a refusal changes none
unfoldable pub filled_bonds : Read (Unit {0}) → List ℕ → List ℕ → List ℕ
filled_bonds (refused r) xs out = out
filled_bonds (read u) xs out = xs ++ drop (length xs) out

abbrev pub file_numbers : (ℕ → List ℕ → Read (Unit {0})) → List ℕ → List ℕ → List ℕ
file_numbers kind d out = filled_bonds (file_reply kind d (length out)) (bytes_of d) out

abbrev pub molfile_bytes : List ℕ → List ℕ → List ℕ
molfile_bytes = file_numbers block_reply

abbrev pub kept_numbers : List ℕ → List ℕ → List ℕ
kept_numbers d out = filled_bonds (lines_reply d) (take (length out) (bytes_of d)) out
