-- Laws. Where there is room for every block's bonds, 9 is never told: what is read is the text's and the block's alone. Assumes nothing.
use Rattle.std.specs.Prelude.{ℕ, Bool, true, false, not, List, [], ◌≡◌, refl, ltb, length}
use Rattle.graph.specs.Graph.{Graph, connected}
use Rattle.reply.specs.Read.{Read, read, ◌then◌, refuse_if, is_outside}
use Rattle.block.specs.Block.{most_atoms, most_bytes}
use Rattle.adjacency.specs.Neighbours.{numbers, bytes_reply, atom_count_reply, Step, steps, bonds_in, bonds_length, molecule, steps_reply, block_of, neighbours_reply}

-- 21, 22 and 1 to 7, with nothing lent
abbrev pub block_alone : ℕ → List Step → Read Graph
block_alone n ss =
    refuse_if (is_outside most_atoms n) 1 0 then λ _.
    refuse_if (ltb most_bytes (bonds_length (bonds_in ss))) 2 0 then λ _.
    steps_reply n [] ss then λ _.
    refuse_if (not (connected (molecule n ss))) 7 0 then λ _.
    read (molecule n ss)

abbrev pub text_alone : List ℕ → Read Graph
text_alone text = bytes_reply text then λ _. atom_count_reply (length text) (numbers text) then λ c. block_alone c.count (steps c.rest)

block_alone_lem : (n : ℕ) (ss : List Step) → block_of n ss most_bytes ≡ block_alone n ss
unfolding block_of
block_alone_lem n ss = go (ltb most_bytes (bonds_length (bonds_in ss)))
  where
    go : (t : Bool)
        → (refuse_if (is_outside most_atoms n) 1 0 then λ _. refuse_if t 2 0 then λ _. steps_reply n [] ss then λ _. refuse_if (not (connected (molecule n ss))) 7 0 then λ _. refuse_if t 9 0 then λ _. read (molecule n ss))
        ≡ (refuse_if (is_outside most_atoms n) 1 0 then λ _. refuse_if t 2 0 then λ _. steps_reply n [] ss then λ _. refuse_if (not (connected (molecule n ss))) 7 0 then λ _. read (molecule n ss))
    go true = refl
    go false = refl

pub text_alone_lem : (text : List ℕ) → neighbours_reply text most_bytes ≡ text_alone text
unfolding neighbours_reply
text_alone_lem text = simp block_alone_lem
