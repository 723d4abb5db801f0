-- Definitions. The molfile that is written for a block: three empty header lines, carbon for every atom at zero coordinates, single bonds, M  END last.
use Rattle.std.specs.Prelude.{ℕ, List, [], ◌∷◌, ◌++◌, ltb, length, drop, replicate}
use Rattle.graph.specs.Graph.{Bond}
use Rattle.reply.specs.Read.{Read, refused, read, ◌then◌, refuse_if}
use Rattle.block.specs.Block.{bonds_of, block_reply}
use Rattle.text.specs.Text.{ascii, feed, three}

-- the number of atoms, the number of bonds
unfoldable pub counts_line : ℕ → ℕ → List ℕ
counts_line n m = three n ++ (three m ++ ascii "  0  0  0  0  0  0  0  0999 V2000")

unfoldable pub atom_line : List ℕ
atom_line = ascii "    0.0000    0.0000    0.0000 C   0  0  0  0  0  0  0  0  0  0  0  0"

-- its ends as they are listed, a single bond
unfoldable pub bond_line : Bond → List ℕ
bond_line b = three b.one ++ (three b.two ++ ascii "  1  0  0  0  0")

unfoldable pub bond_lines : List Bond → List (List ℕ)
bond_lines [] = []
bond_lines (b ∷ bs) = bond_line b ∷ bond_lines bs

unfoldable pub end_line : List ℕ
end_line = ascii "M  END"

unfoldable pub molfile_lines : ℕ → List Bond → List (List ℕ)
molfile_lines n bs = [] ∷ [] ∷ [] ∷ counts_line n (length bs) ∷ (replicate n atom_line ++ (bond_lines bs ++ (end_line ∷ [])))

-- a line feed after each line
unfoldable pub unlines : List (List ℕ) → List ℕ
unlines [] = []
unlines (l ∷ ls) = l ++ (feed ∷ unlines ls)

unfoldable pub molfile_text : ℕ → List Bond → List ℕ
molfile_text n bs = unlines (molfile_lines n bs)

-- the block's refusals, then 9 where fewer bytes are lent than the text has
unfoldable pub molfile_write_reply : ℕ → List ℕ → ℕ → Read ℕ
molfile_write_reply n xs room =
    block_reply n xs then λ _.
    refuse_if (ltb room (length (molfile_text n (bonds_of xs)))) 9 0 then λ _.
    read (length (molfile_text n (bonds_of xs)))

-- the lent bytes afterwards: the text, and later ones as they were; a refusal changes none
unfoldable pub filled_text : Read ℕ → List ℕ → List ℕ → List ℕ
filled_text (refused r) text out = out
filled_text (read k) text out = text ++ drop (length text) out

abbrev pub written_bytes : ℕ → List ℕ → List ℕ → List ℕ
written_bytes n xs out = filled_text (molfile_write_reply n xs (length out)) (molfile_text n (bonds_of xs)) out
