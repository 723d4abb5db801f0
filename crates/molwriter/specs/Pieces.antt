-- Work. The text in the pieces in which it is put.
use Rattle.std.specs.Prelude.{ℕ, zero, suc, List, [], ◌∷◌, ◌++◌, length}
use Rattle.graph.specs.Graph.{Bond}
use Rattle.text.specs.Text.{ascii, three}

unfoldable pub counts_text : ℕ → ℕ → List ℕ
counts_text n m = three n ++ three m ++ ascii "  0  0  0  0  0  0  0  0999 V2000\n"

unfoldable pub atom_text : List ℕ
atom_text = ascii "    0.0000    0.0000    0.0000 C   0  0  0  0  0  0  0  0  0  0  0  0\n"

unfoldable pub bond_text : Bond → List ℕ
bond_text b = three b.one ++ three b.two ++ ascii "  1  0  0  0  0\n"

unfoldable pub atoms_text : ℕ → List ℕ
atoms_text zero = []
atoms_text (suc n) = atom_text ++ atoms_text n

unfoldable pub bonds_text : List Bond → List ℕ
bonds_text [] = []
bonds_text (b ∷ bs) = bond_text b ++ bonds_text bs

unfoldable pub pieces : ℕ → List Bond → List ℕ
pieces n bs = ascii "\n\n\n" ++ counts_text n (length bs) ++ atoms_text n ++ bonds_text bs ++ ascii "M  END\n"
