-- Laws. Methane, and a file for each refusal with its place, by computing.
use Rattle.std.specs.Prelude.{ℕ, ◌≡◌, refl, List, [], ◌∷◌, ◌++◌}
use Rattle.graph.specs.Graph.{joins, any_joins, bonded, any_atom, reaches, first_from, distance, all_atoms, connected, degree}
use Rattle.reply.specs.Read.{Read, refused, read}
use Rattle.block.specs.Block.{bonds_of, bond_fault, bonds_reply, block_reply}
use Rattle.text.specs.Text.{ascii, all_digits, is_number, value_from, number_of, until_feed, line_end, has_carriage, line_chars, next_line, later_line, starts_with, line_starts}
use Rattle.molfile.specs.Molfile.{bond_of_line, hydrogen_in, symbol_at, one_h, hydrogen_at, in_turn, line_reply, numbers_reply, bond_reply, end_line_reply, lines_reply, passing_below, is_dropped, kept_bytes, kept_atoms, bytes_of, file_reply, molfile_reply}

-- what is told of a file: its refusal, or its atoms and the bytes of its bonds
pub data Told : Type 0 where
  no : ℕ → ℕ → Told
  yes : ℕ → List ℕ → Told

says : List ℕ → Read (Unit {0}) → Told
says d (refused r) = no r.number r.place
says d (read u) = yes (kept_atoms d) (bytes_of d)

unfoldable pub told : List ℕ → Told
unfolding says joins any_joins bonded any_atom reaches first_from distance all_atoms connected degree bonds_of bond_fault bonds_reply block_reply all_digits is_number value_from number_of until_feed line_end has_carriage line_chars next_line later_line starts_with line_starts bond_of_line hydrogen_in symbol_at one_h hydrogen_at in_turn line_reply numbers_reply bond_reply end_line_reply lines_reply passing_below is_dropped kept_bytes file_reply
told d = says d (molfile_reply d 128)

atom : List ℕ → List ℕ
atom symbol = ascii "    0.0000    0.0000    0.0000 " ++ symbol ++ ascii "\n"

-- a carbon and four hydrogens
unfoldable pub methane : List ℕ
unfolding atom
methane =
    ascii "methane\n\n\n  5  4  0  0  0  0  0  0  0  0999 V2000\n"
    ++ atom (ascii "H")
    ++ atom (ascii "C  ")
    ++ atom (ascii "H  ")
    ++ atom (ascii "H  ")
    ++ atom (ascii "  H 0")
    ++ ascii "  2  1  1\n  2  3  1\r\n  4  2  1\n  2  5  1\nM  CHG\nM  END"

pub methane_one : told methane ≡ yes 1 []
unfolding told methane atom
methane_one = refl

-- a file of some atom lines and what follows them, by the two counts
unfoldable pub file : List ℕ → List ℕ → List ℕ → List ℕ
file counts atoms rest = ascii "\n\n\n" ++ counts ++ ascii "\n" ++ atoms ++ rest

unfoldable pub carbon : List ℕ
unfolding atom
carbon = atom (ascii "C")

unfoldable pub hydrogen : List ℕ
unfolding atom
hydrogen = atom (ascii "H  ")

-- lines that are missing or short
pub nothing_there : told [] ≡ no 25 0
unfolding told
nothing_there = refl

pub no_counts : told (ascii "\n\n\n") ≡ no 25 3
unfolding told
no_counts = refl

pub short_counts : told (ascii "\n\n\n  1  \r\n") ≡ no 25 3
unfolding told
short_counts = refl

pub short_atom : told (ascii "\n\n\n  1  0\nC\nM  END\n") ≡ no 25 10
unfolding told
short_atom = refl

pub no_end : told (file (ascii "  1  0") carbon (ascii "M END\n")) ≡ no 25 49
unfolding told file carbon atom
no_end = refl

-- no number, and an end outside the atom list
pub sign : told (ascii "\n\n\n +1  0\n") ≡ no 26 3
unfolding told
sign = refl

pub two_carriages : told (ascii "\n\n\n  1  \r\r\n") ≡ no 26 3
unfolding told
two_carriages = refl

pub number_first : told (file (ascii "  1  1") carbon (ascii "  9  x\n")) ≡ no 26 43
unfolding told file carbon atom
number_first = refl

pub outside : told (file (ascii "  1  1") carbon (ascii "  1  2\nM  END\n")) ≡ no 27 43
unfolding told file carbon atom
outside = refl

-- the block's: no atom, and an atom bonded to itself
pub no_atom : told (ascii "\n\n\n  0  0  0     0  0              1 V3000\nM  END\n") ≡ no 1 0
unfolding told
no_atom = refl

pub itself : told (file (ascii "  1  1") carbon (ascii "  1  1\nM  END\n")) ≡ no 4 1
unfolding told file carbon atom
itself = refl

-- two hydrogens bonded to each other stay; one of two bonds too
pub two_hydrogens : told (file (ascii "  2  1") (hydrogen ++ hydrogen) (ascii "  1  2\nM  END\n")) ≡ yes 2 (1 ∷ 2 ∷ [])
unfolding told file hydrogen atom
two_hydrogens = refl

pub bridge : told (file (ascii "  3  2") (carbon ++ hydrogen ++ carbon) (ascii "  1  2\n  3  2\nM  END\n")) ≡ yes 3 (1 ∷ 2 ∷ 3 ∷ 2 ∷ [])
unfolding told file carbon hydrogen atom
bridge = refl

-- atoms are numbered anew: H-C-C is the bond 1-2
pub renumbered : told (file (ascii "  3  2") (hydrogen ++ carbon ++ carbon) (ascii "  1  2\n  3  2\nM  END\n")) ≡ yes 2 (2 ∷ 1 ∷ [])
unfolding told file carbon hydrogen atom
renumbered = refl
