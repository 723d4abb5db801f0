-- Definitions. The neighbour text of a block: each atom that has greater neighbours once, labels and neighbours ascending.
use Rattle.std.specs.Prelude.{ℕ, zero, suc, Bool, ◌&&◌, cond, List, [], ◌∷◌, ◌++◌, ltb, length, drop}
use Rattle.graph.specs.Graph.{Bond, any_joins}
use Rattle.reply.specs.Read.{Read, refused, read, ◌then◌, refuse_if}
use Rattle.block.specs.Block.{bonds_of, block_reply}
use Rattle.text.specs.Text.{ascii, decimal}

-- those of the atoms 1 to n that pass, ascending
unfoldable pub up_to : ℕ → (ℕ → Bool) → List ℕ
up_to zero p = []
up_to (suc n) p = up_to n p ++ cond (p (suc n)) (suc n ∷ []) []

-- an atom's neighbours that are greater than it; `joined` says which atoms are bonded
abbrev pub is_greater : (ℕ → ℕ → Bool) → ℕ → ℕ → Bool
is_greater joined i j = ltb i j && joined i j

unfoldable pub greater : (ℕ → ℕ → Bool) → ℕ → ℕ → List ℕ
greater joined n i = up_to n (is_greater joined i)

-- numbers, a blank before each
unfoldable pub listed : List ℕ → List ℕ
listed [] = []
listed (j ∷ js) = ascii " " ++ decimal j ++ listed js

-- the line of an atom and its greater neighbours; none where it has none
unfoldable pub line : ℕ → List ℕ → List ℕ
line i [] = []
line i (j ∷ js) = decimal i ++ listed (j ∷ js) ++ ascii " 0\n"

-- the lines of the atoms 1 to m
unfoldable pub lines : (ℕ → ℕ → Bool) → ℕ → ℕ → List ℕ
lines joined n zero = []
lines joined n (suc m) = lines joined n m ++ line (suc m) (greater joined n (suc m))

unfoldable pub text_by : (ℕ → ℕ → Bool) → ℕ → List ℕ
text_by joined n = decimal n ++ ascii "\n" ++ lines joined n n ++ ascii "0\n"

-- the text of a block
abbrev pub written_text : ℕ → List Bond → List ℕ
written_text n bs = text_by (any_joins bs) n

-- the block's refusals, then 9 for the bytes that are lent
unfoldable pub neighbours_write_reply : ℕ → List ℕ → ℕ → Read (List ℕ)
neighbours_write_reply n xs room =
    block_reply n xs then λ _.
    refuse_if (ltb room (length (written_text n (bonds_of xs)))) 9 0 then λ _.
    read (written_text n (bonds_of xs))

-- the lent bytes afterwards: the text at their front, or as they were
abbrev pub text_after : Read (List ℕ) → List ℕ → List ℕ
text_after (refused r) out = out
text_after (read t) out = t ++ drop (length t) out
