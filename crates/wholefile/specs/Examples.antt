-- Laws. Files read whole, and one for each refusal with its place, by computing. Assumes nothing.
use Rattle.std.specs.Prelude.{ℕ, zero, suc, ◌≡◌, refl, List, [], ◌∷◌, ◌++◌}
use Rattle.graph.specs.Graph.{joins, any_joins, degree}
use Rattle.reply.specs.Read.{Read, refused, read}
use Rattle.block.specs.Block.{bonds_of, bond_fault, bonds_reply}
use Rattle.text.specs.Text.{ascii, all_digits, is_number, value_from, number_of, until_feed, line_end, has_carriage, line_chars, next_line, later_line, starts_with, line_starts}
use Rattle.molfile.specs.Molfile.{bond_of_line, hydrogen_in, symbol_at, one_h, hydrogen_at, in_turn, line_reply, numbers_reply, bond_reply, end_line_reply, lines_reply, passing_below, is_dropped, kept_bytes, kept_atoms, bytes_of, file_reply}
use Rattle.molfile.specs.Examples.{methane, file, carbon, hydrogen}
use Rattle.wholefile.specs.Whole.{molecule_reply, whole_file_reply}

-- what is told of a file: its refusal, or its atoms and the numbers of its bonds
pub data Told : Type 0 where
  no : ℕ → ℕ → Told
  yes : ℕ → List ℕ → Told

says : List ℕ → Read (Unit {0}) → Told
says d (refused r) = no r.number r.place
says d (read u) = yes (kept_atoms d) (bytes_of d)

-- into room for so many numbers
unfoldable pub told : List ℕ → ℕ → Told
unfolding says joins any_joins degree bonds_of bond_fault bonds_reply all_digits is_number value_from number_of until_feed line_end has_carriage line_chars next_line later_line starts_with line_starts bond_of_line hydrogen_in symbol_at one_h hydrogen_at in_turn line_reply numbers_reply bond_reply end_line_reply lines_reply passing_below is_dropped kept_bytes molecule_reply file_reply
told d room = says d (whole_file_reply d room)

-- so many carbons
unfoldable pub carbons : ℕ → List ℕ
carbons zero = []
carbons (suc k) = carbon ++ carbons k

pub methane_one : told methane 0 ≡ yes 1 []
unfolding told methane
methane_one = refl

-- more atoms than a block may have, and no path between them
pub many : told (file (ascii " 65  0") (carbons 65) (ascii "M  END\n")) 0 ≡ yes 65 []
unfolding told file carbon carbons
many = refl

-- H-C-C is the bond 1-2
pub renumbered : told (file (ascii "  3  2") (hydrogen ++ carbon ++ carbon) (ascii "  1  2\n  3  2\nM  END\n")) 2 ≡ yes 2 (2 ∷ 1 ∷ [])
unfolding told file carbon hydrogen
renumbered = refl

-- no line, no atom, an atom bonded to itself, a bond listed before the other way round, an atom with seven bonds, and room for too few numbers
pub nothing_there : told [] 2 ≡ no 25 0
unfolding told
nothing_there = refl

pub no_atom : told (ascii "\n\n\n  0  0  0     0  0              1 V3000\nM  END\n") 2 ≡ no 1 0
unfolding told
no_atom = refl

pub itself : told (file (ascii "  2  2") (carbons 2) (ascii "  1  2\n  2  2\nM  END\n")) 4 ≡ no 4 2
unfolding told file carbon carbons
itself = refl

pub twice : told (file (ascii "  2  2") (carbons 2) (ascii "  1  2\n  2  1\nM  END\n")) 4 ≡ no 5 2
unfolding told file carbon carbons
twice = refl

pub seven : told (file (ascii "  8  7") (carbons 8) (ascii "  1  2\n  1  3\n  1  4\n  5  1\n  1  6\n  1  7\n  8  1\nM  END\n")) 14 ≡ no 6 7
unfolding told file carbon carbons
seven = refl

pub too_short : told (file (ascii "  2  1") (carbons 2) (ascii "  1  2\nM  END\n")) 1 ≡ no 9 0
unfolding told file carbon carbons
too_short = refl
