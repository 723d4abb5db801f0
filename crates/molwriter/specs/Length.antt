-- Laws. How long the text of a block is. Assumes nothing.
use Rattle.std.specs.Prelude.{ℕ, zero, suc, ◌+◌, ◌*◌, ◌/◌, List, [], ◌∷◌, ◌≡◌, refl, length}
use Rattle.std.proofs.Common.{◌∙◌, arith, length-append}
use Rattle.graph.specs.Graph.{Bond}
use Rattle.block.specs.Block.{bonds_of}
use Rattle.text.specs.Text.{three}
use Rattle.molwriter.specs.Pieces.{counts_text, atom_text, atoms_text, bond_text, bonds_text, pieces}

pub half_length : (xs : List ℕ) → length (bonds_of xs) ≡ length xs / 2
unfolding bonds_of
half_length [] = refl
half_length (a ∷ []) = refl
half_length (a ∷ (b ∷ xs)) = omega (arith, half_length xs)

pub counts_length : (n m : ℕ) → length (counts_text n m) ≡ 40
unfolding counts_text three
counts_length n m = refl

pub bond_length : (b : Bond) → length (bond_text b) ≡ 22
unfolding bond_text three
bond_length b = refl

pub atoms_length : (n : ℕ) → length (atoms_text n) ≡ 70 * n
unfolding atoms_text atom_text
atoms_length zero = refl
atoms_length (suc n) = length-append atom_text (atoms_text n) ∙ omega (arith, atoms_length n)

pub bonds_length : (bs : List Bond) → length (bonds_text bs) ≡ 22 * length bs
unfolding bonds_text
bonds_length [] = refl
bonds_length (b ∷ bs) = length-append (bond_text b) (bonds_text bs) ∙ omega (arith, bond_length b, bonds_length bs)

pub pieces-length : (n : ℕ) (bs : List Bond) → length (pieces n bs) ≡ 50 + 70 * n + 22 * length bs
unfolding pieces
pieces-length n bs =
    simp length-append
    (omega (arith, counts_length n (length bs), atoms_length n, bonds_length bs))
