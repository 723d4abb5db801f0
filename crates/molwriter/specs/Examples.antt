-- Laws. A bond of two atoms as it is written, by computing.
use Rattle.std.specs.Prelude.{◌≡◌, refl, [], ◌∷◌, ◌++◌}
use Rattle.graph.specs.Graph.{bond}
use Rattle.text.specs.Text.{ascii, three}
use Rattle.molwriter.specs.Written.{counts_line, atom_line, bond_line, bond_lines, end_line, molfile_lines, unlines, molfile_text}

pub pair : molfile_text 2 (bond 1 2 ∷ [])
    ≡ ascii "\n\n\n  2  1  0  0  0  0  0  0  0  0999 V2000\n"
    ++ ascii "    0.0000    0.0000    0.0000 C   0  0  0  0  0  0  0  0  0  0  0  0\n"
    ++ ascii "    0.0000    0.0000    0.0000 C   0  0  0  0  0  0  0  0  0  0  0  0\n"
    ++ ascii "  1  2  1  0  0  0  0\nM  END\n"
unfolding three counts_line atom_line bond_line bond_lines end_line molfile_lines unlines molfile_text
pair = refl
